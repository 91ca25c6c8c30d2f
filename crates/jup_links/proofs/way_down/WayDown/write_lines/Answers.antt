use Rattle.std.proofs.Common.{◌≡◌, ℕ, ◌+◌, ◌<◌, ◌≤◌, Bool, true, false, List, [], ◌∷◌, ◌++◌, zero, suc, length, take, drop, sym, ap, ◌∙◌, subst, arith, rules, add-one, append_assoc, length-append, flat_map, inl, inr}
use Rattle.std.proofs.lemmas.List.{append_cancel_right, flat_map_more, take-append-le}
use Rattle.jup_resume.specs.Texts.{Text, spelled}
use Rattle.jup_resume.specs.Keepers.{Keeping, unsent, IsAllWritten, IsNextLine, WritesNext, IsWritten, after_write}
use Rattle.jup_resume.proofs.Texts.{all_both}
use Rattle.jup_links.specs.LastLines.{IsNoLast}
use Rattle.jup_links.specs.Ways.{Down, most_written, IsLineNext, AreNextLines}
use Rattle.jup_links.proofs.way_down.WayDown.write_lines.Goals as goal

-- what follows on the first so many and one more
drop_suc : (count : ℕ) (texts : List Text) (text : Text) (rest : List Text) → drop count texts ≡ text ∷ rest → drop (suc count) texts ≡ rest
drop_suc zero [] text rest left = absurd cc
drop_suc (suc count) [] text rest left = absurd cc
drop_suc zero (first ∷ texts) text rest left = (let is : texts ≡ rest = cc in is)
drop_suc (suc count) (first ∷ texts) text rest left = drop_suc count texts text rest left

drop_one_more : (count : ℕ) (texts : List Text) (text : Text) (rest : List Text) → drop count texts ≡ text ∷ rest → drop (count + 1) texts ≡ rest
drop_one_more count texts text rest left = rw add-one (drop_suc count texts text rest left)

-- the line that is next
text_next : (k : Keeping) (one other : List ℕ) (first : IsNextLine k one) (second : IsNextLine k other) → first.text ≡ second.text
text_next k one other first second =
    let same : first.text ∷ first.rest ≡ second.text ∷ second.rest = sym first.left ∙ second.left in
    (let is : first.text ≡ second.text = cc in is)

-- it is not the last of the link
no_last_next : (k : Keeping) (line : List ℕ) (next : IsNextLine k line) → IsLineNext k → IsNoLast next.text
no_last_next k line next it =
    let same : next.text ≡ it.next.text = text_next k line (spelled it.text) next it.next in
    let whole : it.text ≡ it.next.text = append_cancel_right it.text it.next.text (10 ∷ []) it.next.whole in
    subst IsNoLast (whole ∙ sym same) it.no_last

-- if a line is next, not all are written
not_all_written : (k : Keeping) (line : List ℕ) → IsNextLine k line → IsAllWritten k → ⊥
not_all_written k line next (inl closed) = (let clash : true ≡ false = sym next.is_open ∙ closed in absurd cc)
not_all_written k line next (inr none) = (let clash : next.text ∷ next.rest ≡ [] = sym next.left ∙ none in absurd cc)

it_is_written : (k new : Keeping) (before after : List ℕ) (wrote : Bool) → IsLineNext k → WritesNext wrote k new before after → IsWritten k new before after
it_is_written k new before after true next writes = writes
it_is_written k new before after false next writes = absurd (not_all_written k (spelled next.text) next.next writes.0)

-- the first so many of the lines are at most as long as all
first_fit : (lines : List Text) (count : ℕ) → length (flat_map spelled (take count lines)) ≤ length (flat_map spelled lines)
first_fit [] zero = omega arith
first_fit [] (suc count) = omega arith
first_fit (line ∷ lines) zero = omega arith
first_fit (line ∷ lines) (suc count) =
    let fit = first_fit lines count in
    omega (arith, fit, length-append (spelled line) (flat_map spelled (take count lines)), length-append (spelled line) (flat_map spelled lines))

-- each line begins within the room
begins_within : (before bytes : List ℕ) (lines : List Text) (text : Text) → bytes ≡ before ++ flat_map spelled lines → length bytes < most_written
    → (count : ℕ) → count < length (lines ++ text ∷ []) → length (before ++ flat_map spelled (take count (lines ++ text ∷ []))) < most_written
begins_within before bytes lines text whole room count below =
    let long = length-append lines (text ∷ []) in
    let same : take count (lines ++ text ∷ []) ≡ take count lines = take-append-le count lines (text ∷ []) (omega (arith, long, below)) in
    let size = ap length whole ∙ length-append before (flat_map spelled lines) in
    let fit = first_fit lines count in
    rw same (omega (arith, size, fit, room, length-append before (flat_map spelled (take count lines))))

module _ (old mid new : Down) (before bytes after : List ℕ) where
  -- one more line was written
  one_line_more : AreNextLines old mid before bytes → IsLineNext mid.lines → length bytes < most_written → IsWritten mid.lines new.lines bytes after
      → new ≡ record mid { lines = new.lines } → AreNextLines old new before after
  one_line_more lines next room written same =
      let text = written.next.text in
      let rest : unsent new.lines ≡ written.next.rest = ap unsent written.wrote ∙ drop_one_more mid.lines.sent mid.lines.kept text written.next.rest written.next.left in
      record {
        lines = lines.lines ++ text ∷ [];
        follow = lines.follow ∙ ap (λ ts. lines.lines ++ ts) (written.next.left ∙ ap (λ ts. text ∷ ts) (sym rest)) ∙ sym (append_assoc lines.lines (text ∷ []) (unsent new.lines));
        no_last = all_both IsNoLast lines.lines (text ∷ []) lines.no_last (no_last_next mid.lines written.line written.next next, tt);
        whole = written.appended ∙ ap (λ bs. bs ++ written.line) lines.whole ∙ ap (λ l. (before ++ flat_map spelled lines.lines) ++ l) written.next.whole ∙ flat_map_more spelled before lines.lines text;
        noted = same ∙ ap (λ ls. record mid { lines = ls }) written.wrote ∙ ap (λ (d : Down). record d { lines = after_write d.lines }) lines.noted
            ∙ ap (λ n. record old { lines = record old.lines { sent = n } }) (omega (arith, length-append lines.lines (text ∷ [])));
        room = begins_within before bytes lines.lines text lines.whole room;
      }

  -- a line has a byte
  longer : IsWritten mid.lines new.lines bytes after → length bytes + 1 ≤ length after
  longer written =
      let size = ap length written.appended ∙ length-append bytes written.line in
      let one = ap length written.next.whole ∙ length-append written.next.text (10 ∷ []) in
      omega (arith, size, one)

pub loop-preserved : goal.loop-preserved
loop-preserved c =
    let old = c.args.self.now in
    let mid = c.loop.self in
    let new = c.write_next.new.self in
    let before = c.args.out.now.items in
    let bytes = c.loop.out.items in
    let after = c.write_next.new.out.items in
    let line : IsLineNext mid.lines = search rules in
    let written = it_is_written mid.lines new.lines bytes after c.in_ok-write_next.field-0 line c.in_ok-write_next.ensures.wrote in
    let room : length bytes < most_written = search rules in
    let counted = c.loop.invariant.counted in
    let more = longer old mid new before bytes after written in
    record {
      counted = omega (arith, counted, more);
      lines = one_line_more old mid new before bytes after c.loop.invariant.lines line room written c.in_ok-write_next.ensures.same;
    }
