-- What bytes make one by one.
use Rattle.std.proofs.Common.{◌≡◌, ◌≢◌, ℕ, ◌-◌, suc, Bool, List, [], ◌∷◌, ◌++◌, length, sym, ap, ◌∙◌, subst, arith, append_assoc, append-nil, length-append, ne_eqb}
use Rattle.jup_resume.specs.Texts.{Text, HasNoFeed}
use Rattle.jup_resume.specs.Takers.{GoesOn, EndsLine}
use Rattle.jup_resume.specs.Ways.{Way, comes, with_read, with_byte, run}
use Rattle.jup_resume.proofs.Texts.{all_right}

module _ (note : Text → Bool) where
  -- bytes without a line feed come
  open_come : (w : Way) (bytes more : List ℕ) → HasNoFeed bytes → run note (comes (length bytes)) (record w { wire = bytes ++ more }) ≡ record w { wire = more; part = w.part ++ bytes }
  open_come w [] more free = ap (λ p. record w { wire = more; part = p }) (sym (append-nil w.part))
  open_come w (b ∷ bytes) more free =
      ap (λ t. run note (comes (length bytes)) (with_byte note (record w { wire = b ∷ (bytes ++ more) }) b (bytes ++ more) t)) (ne_eqb b 10 free.0)
      ∙ open_come (record w { part = w.part ++ b ∷ [] }) bytes more free.1
      ∙ ap (λ p. record w { wire = more; part = p }) (append_assoc w.part (b ∷ []) bytes)

  -- and then one
  feed_comes : (w : Way) (bytes more : List ℕ) → HasNoFeed bytes
      → run note (comes (suc (length bytes))) (record w { wire = bytes ++ 10 ∷ more }) ≡ record w { wire = more; part = []; handed = with_read (note (w.part ++ bytes)) (w.part ++ bytes) w.handed }
  feed_comes w [] more free = ap (λ p. record w { wire = more; part = []; handed = with_read (note p) p w.handed }) (sym (append-nil w.part))
  feed_comes w (b ∷ bytes) more free =
      ap (λ t. run note (comes (suc (length bytes))) (with_byte note (record w { wire = b ∷ (bytes ++ 10 ∷ more) }) b (bytes ++ 10 ∷ more) t)) (ne_eqb b 10 free.0)
      ∙ feed_comes (record w { part = w.part ++ b ∷ [] }) bytes more free.1
      ∙ ap (λ p. record w { wire = more; part = []; handed = with_read (note p) p w.handed }) (append_assoc w.part (b ∷ []) bytes)

  -- the bytes of the piece in front of what it leaves come: it goes on within a line
  pub part_comes : (w : Way) (piece more new rest : List ℕ) → w.wire ≡ piece ++ more → GoesOn w.part piece new rest
      → run note (comes (length piece - length rest)) w ≡ record w { wire = rest ++ more; part = new }
  part_comes w piece more new rest wire on =
      let free : HasNoFeed piece = all_right (λ b. b ≢ 10) w.part piece (subst HasNoFeed on.part on.is_part.open_ended) in
      let none : length rest ≡ 0 = ap length on.all in
      let count : length piece - length rest ≡ length piece = omega (arith, none) in
      ap (λ n. run note (comes n) w) count
      ∙ ap (λ bytes. run note (comes (length piece)) (record w { wire = bytes })) wire
      ∙ open_come w piece more free
      ∙ ap (λ p. record w { wire = more; part = p }) (sym on.part)
      ∙ ap (λ r. record w { wire = r ++ more; part = new }) (sym on.all)

  -- or a line feed in it ends a line
  pub line_comes : (w : Way) (piece more new rest : List ℕ) (text : Text) → w.wire ≡ piece ++ more → EndsLine w.part piece new rest text
      → run note (comes (length piece - length rest)) w ≡ record w { wire = rest ++ more; part = new; handed = with_read (note text) text w.handed }
  line_comes w piece more new rest text wire ends =
      let bytes : w.wire ≡ ends.behind ++ 10 ∷ (rest ++ more) =
      wire ∙ ap (λ p. p ++ more) ends.cut.whole ∙ append_assoc ends.behind (10 ∷ rest) more in
      let long : length piece ≡ length (ends.behind ++ 10 ∷ rest) = ap length ends.cut.whole in
      let count : length piece - length rest ≡ suc (length ends.behind) = omega (arith, long, length-append ends.behind (10 ∷ rest)) in
      ap (λ n. run note (comes n) w) count
      ∙ ap (λ b. run note (comes (suc (length ends.behind))) (record w { wire = b })) bytes
      ∙ feed_comes w ends.behind (rest ++ more) ends.cut.first
      ∙ ap (λ t. record w { wire = rest ++ more; part = []; handed = with_read (note t) t w.handed }) (sym ends.whole)
      ∙ ap (λ p. record w { wire = rest ++ more; part = p; handed = with_read (note text) text w.handed }) (sym ends.part)
