-- What a client's link hands to a connection is written on the way up.
use Rattle.std.proofs.Common.{◌≡◌, ℕ, ◌-◌, ◌<◌, ◌≤◌, true, ◌&&◌, nat_lt, List, [], ◌∷◌, ◌++◌, length, refl, sym, ap, ◌∙◌, subst, arith, inl, inr, length-drop}
use Rattle.std.proofs.lemmas.Bool.Decides.{nat_tests}
use Rattle.jup_resume.specs.Texts.{Text, spelled}
use Rattle.jup_resume.proofs.Readings.{decimal_lacks}
use Rattle.jup_resume.specs.Keepers.{Keeping, after_write, unsent, reach}
use Rattle.jup_resume.specs.Ways.{Way, Notes, Saves, Tells, Writes, with_line_of, write_if, happens, run, IsAllowed, Keeps, IsRun}
use Rattle.jup_resume.specs.Notes.{note_text, begins_note}
use Rattle.jup_resume.specs.declared.note.Note.TheVariants.{Got}
use Rattle.jup_lasting.specs.Links.{Link, IsBegun, TellsGot, PutsLine, Moves, MovesOut, after_handing}
use Rattle.jup_lasting.specs.declared.carriage.Carriage.TheVariants.{Carried}
use Rattle.jup_lasting.specs.Runs.{Ways, Moment, with_begun, with_moved}
use Rattle.jup_resume.proofs.WayRuns.{run_on, keeps}
use Rattle.jup_lasting.proofs.Counting.{below_first}
use Rattle.jup_lasting.proofs.InStep.{Stands, InStep, stands_same, same_ends}

lt_true : (a b : ℕ) → a < b → nat_lt a b ≡ true
lt_true a b less = grind (arith, nat_tests)

-- a `got` is a note
got_allowed : (n : ℕ) → n ≤ 4294967295 → IsAllowed begins_note (Notes (note_text (Got n)))
got_allowed n few = (
  ((λ e. omega (arith, e)), ((λ e. omega (arith, e)), ((λ e. omega (arith, e)), ((λ e. omega (arith, e)), decimal_lacks 10 (omega arith) n (omega (arith, few)))))),
  refl,
)

-- the first line that is not written yet is written
line_written : (w : Way) (text : Text) (rest : List Text) → Keeps w → w.stored ≡ length w.put → w.keeper.is_open ≡ true → unsent w.keeper ≡ text ∷ rest
    → happens begins_note w Writes ≡ record w { keeper = after_write w.keeper; wire = w.wire ++ spelled text }
line_written w text rest keeps stored is_open left =
    let sent : w.keeper.sent < length w.keeper.kept = below_first w.keeper.kept w.keeper.sent text rest left in
    let long : length w.keeper.kept ≡ length w.put - w.keeper.dropped = ap length keeps.kept ∙ length-drop w.keeper.dropped w.put in
    let less : nat_lt (reach w.keeper) w.stored ≡ true = lt_true (reach w.keeper) w.stored (omega (arith, sent, long, stored)) in
    ap (λ b. write_if w (b && nat_lt (reach w.keeper) w.stored)) is_open
    ∙ ap (λ b. write_if w (true && b)) less
    ∙ ap (λ l. with_line_of w l) left

got_begun : (m : Moment) (d : Link) → TellsGot m.link d → InStep m
    → InStep (record m { link = d; ways = record { up = happens begins_note m.ways.up (Notes (note_text (Got m.link.confirming.taken))); down = run begins_note (Saves ∷ Tells ∷ []) m.ways.down } })
got_begun m d got h =
    let c = m.link in
    let v : Ways = record { up = happens begins_note m.ways.up (Notes (note_text (Got c.confirming.taken))); down = run begins_note (Saves ∷ Tells ∷ []) m.ways.down } in
    let few : c.confirming.taken ≤ 4294967295 = omega (arith, h.confirming, h.few) in
    let now : InStep (record m { ways = v }) = record {
      up = run_on begins_note m.ways.up (Notes (note_text (Got c.confirming.taken)) ∷ []) h.up (got_allowed c.confirming.taken few, tt);
      down = run_on begins_note m.ways.down (Saves ∷ Tells ∷ []) h.down (tt, (tt, tt));
      said = h.said;
      told = h.told;
      stored = h.stored;
      dropped = h.dropped;
      kept = h.kept;
      taken = h.taken;
      confirming = h.confirming;
      few = h.few;
      stands = stands_same c.carriage m.connection c c m.ways v refl refl refl refl h.stands;
    } in
    same_ends (record m { ways = v }) d (ap (λ (l : Link). l.up) got.1) (ap (λ (l : Link). l.down) got.1) (ap (λ (l : Link). l.carriage) got.1)
    (ap (λ (l : Link). l.confirming.taken) got.1) now

line_begun : (m : Moment) (d : Link) → PutsLine m.link d → InStep m → InStep (record m { link = d; ways = record m.ways { up = happens begins_note m.ways.up Writes } })
line_begun m d line h =
    let c = m.link in
    let w = m.ways.up in
    let at : Stands Carried m.connection c m.ways = subst (λ x. Stands x m.connection c m.ways) line.1 h.stands in
    let next = line.2.next in
    let left : unsent w.keeper ≡ next.text ∷ next.rest = ap unsent (sym at.2) ∙ next.left in
    let wrote = line_written w next.text next.rest (keeps begins_note w h.up) h.stored (ap (λ (k : Keeping). k.is_open) (sym at.2) ∙ at.3) left in
    let up : d.up ≡ after_write w.keeper = line.2.wrote ∙ ap after_write at.2 in
    let now : InStep (record m { link = d; ways = record m.ways { up = record w { keeper = after_write w.keeper; wire = w.wire ++ spelled next.text } } }) = record {
      up = subst (IsRun begins_note) wrote (run_on begins_note w (Writes ∷ []) h.up (tt, tt));
      down = h.down;
      said = h.said;
      told = h.told;
      stored = h.stored;
      dropped = ap (λ (k : Keeping). k.dropped) up;
      kept = ap (λ (k : Keeping). k.kept) up;
      taken = ap (λ (l : Link). l.down.taken) line.3 ∙ h.taken;
      confirming = ap (λ (l : Link). l.confirming.taken) line.3 ∙ h.confirming ∙ ap (λ (l : Link). l.down.taken) (sym line.3);
      few = subst (λ (l : Link). l.down.taken ≤ 4294967295) (sym line.3) h.few;
      stands = subst (λ x. Stands x m.connection d (record m.ways { up = record w { keeper = after_write w.keeper; wire = w.wire ++ spelled next.text } })) (sym (ap (λ (l : Link). l.carriage) line.3 ∙ line.1))
          (at.0, ap (λ (l : Link). l.down.part) line.3 ∙ at.1, up, ap (λ (k : Keeping). k.is_open) up ∙ ap (λ (k : Keeping). k.is_open) (sym at.2) ∙ at.3);
    } in
    subst (λ x. InStep (record m { link = d; ways = record m.ways { up = x } })) (sym wrote) now

begun : (m : Moment) (d : Link) → (is : IsBegun m.link d) → InStep m → InStep (record m { link = d; ways = with_begun m.link d is m.ways })
begun m d (inl old) h = subst (λ l. InStep (record m { link = l })) (sym old.1) h
begun m d (inr (none, inl got)) h = got_begun m d got h
begun m d (inr (none, inr line)) h = line_begun m d line h

moved : (pieces : List (List ℕ)) (m : Moment) (d : Link) → (moves : Moves pieces m.link d) → InStep m → InStep (record m { link = d; ways = with_moved pieces m.link d moves m.ways })
moved [] m d same h = subst (λ l. InStep (record m { link = l })) (sym same) h
moved (bytes ∷ pieces) m d (middle, some, more) h =
    let v = with_begun m.link some.0 some.1 m.ways in
    let one : InStep (record m { link = some.0; ways = v }) = begun m some.0 some.1 h in
    let two : InStep (record m { link = middle; ways = v }) = same_ends (record m { link = some.0; ways = v }) middle
    (ap (λ (l : Link). l.up) some.3) (ap (λ (l : Link). l.down) some.3) (ap (λ (l : Link). l.carriage) some.3) (ap (λ (l : Link). l.confirming.taken) some.3) one in
    moved pieces (record m { link = middle; ways = v }) d more two

handed : (bytes : List ℕ) (m : Moment) (d : Link) → d ≡ after_handing bytes m.link → InStep m → InStep (record m { link = d })
handed [] m d same h = subst (λ l. InStep (record m { link = l })) (sym same) h
handed (byte ∷ bytes) m d same h =
    same_ends m d (ap (λ (l : Link). l.up) same) (ap (λ (l : Link). l.down) same) (ap (λ (l : Link). l.carriage) same) (ap (λ (l : Link). l.confirming.taken) same) h

-- bytes are handed to the connection
pub hands : (m : Moment) (bytes : List ℕ) (d : Link) → (moves : MovesOut bytes m.link d) → InStep m → InStep (record m { link = d; ways = with_moved moves.1.0 m.link moves.0 moves.1.1 m.ways })
hands m bytes d moves h =
    let v = with_moved moves.1.0 m.link moves.0 moves.1.1 m.ways in
    handed bytes (record m { link = moves.0; ways = v }) d moves.2 (moved moves.1.0 m moves.0 moves.1.1 h)
