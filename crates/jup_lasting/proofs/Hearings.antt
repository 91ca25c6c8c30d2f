-- What a client's link hears of a carrier comes on the way down, and what it hears of another connection changes no way.
use Rattle.std.proofs.Common.{◌≡◌, ◌≢◌, ℕ, zero, suc, ◌+◌, ◌-◌, ◌<◌, ◌≤◌, true, false, List, [], ◌∷◌, ◌++◌, length, drop, Option, None, Some, refl, sym, ap, ◌∙◌, subst, arith, inl, inr, length-append, append-nil}
use Rattle.jup_resume.specs.Texts.{Text}
use Rattle.jup_resume.specs.Takers.{Brings, GoesOn, EndsLine}
use Rattle.jup_resume.specs.Notes.{note_text, begins_note}
use Rattle.jup_resume.specs.Keepers.{Keeping, after_begin, after_got, IsPlace, IsGot}
use Rattle.jup_resume.specs.Ways.{Way, Hears, Begins, with_read, with_place, with_count, hear_if, comes, happens, run, AreAllowed, TakesNext, TakesPlace, IsRun}
use Rattle.jup_resume.specs.declared.note.Note.{Note}
use Rattle.jup_resume.specs.declared.note.Note.TheVariants.{Hello, Link as OpensLink, Resume, Resumed as SaysResumed, Ended as SaysEnded, Got}
use Rattle.jup_resume.specs.declared.taker.Arrival.{Arrival}
use Rattle.jup_resume.specs.declared.taker.Arrival.TheVariants.{Part, Note as IsNoteLine, Line as IsLine, LongLine as IsLongLine}
use Rattle.jup_lasting.specs.Answers.{SaysNote}
use Rattle.jup_lasting.specs.Links.{Link, HearsIn, HearsNote, HearsText, IsAnswered, Opens, Resumes, Forgets, with_taken, cut_of, broken, given_up}
use Rattle.jup_lasting.specs.declared.terms.Terms.{Terms}
use Rattle.jup_lasting.specs.declared.carriage.Carriage.{Carriage}
use Rattle.jup_lasting.specs.declared.carriage.Carriage.TheVariants.{Cut, Asking, Carried, Last, Over}
use Rattle.jup_lasting.specs.declared.line_kind.LineKind.{LineKind}
use Rattle.jup_lasting.specs.declared.line_kind.LineKind.TheVariants as kind
use Rattle.jup_lasting.specs.declared.first_answer.FirstAnswer.{FirstAnswer}
use Rattle.jup_lasting.specs.declared.first_answer.FirstAnswer.TheVariants as answer
use Rattle.jup_lasting.specs.declared.link.Heard.{Heard}
use Rattle.jup_lasting.specs.declared.link.Heard.TheVariants as heard
use Rattle.jup_lasting.specs.Runs.{Ways, Connection, Silent, Carrier, Stranger, Moment, Answers, Confirms, TellsTruth, with_note, lines_of, HearsCarrier, HearsOther, HearsNothing}
use Rattle.jup_resume.proofs.PieceLaws.{part_comes, line_comes}
use Rattle.jup_resume.proofs.WayRuns.{run_on, keeps}
use Rattle.jup_lasting.proofs.InStep.{AsksBy, Stands, InStep, same_ends, gives_up}

comes_allowed : (n : ℕ) → AreAllowed begins_note (comes n)
comes_allowed zero = tt
comes_allowed (suc n) = (tt, comes_allowed n)

is_note : (note : Note) → begins_note (note_text note) ≡ true
is_note Hello = refl
is_note (OpensLink token seconds kept) = refl
is_note (Resume token taken) = refl
is_note (SaysResumed taken) = refl
is_note (SaysEnded taken) = refl
is_note (Got taken) = refl

-- The bytes of the carrier.

-- what the client hears in a piece keeps in step with what the ways become
abbrev Follows : Moment → Heard → Link → Way → Way → Type 0
Follows m h d up down = InStep (record m { link = d; ways = record { up = up; down = down }; told = m.told ++ lines_of h })

-- the client hears no line
none_told : (m : Moment) (d : Link) (v : Ways) → InStep (record m { link = d; ways = v }) → InStep (record m { link = d; ways = v; told = m.told ++ [] })
none_told m d v h = subst (λ told. InStep (record m { link = d; ways = v; told = told })) (sym (append-nil m.told)) h

module _ (m : Moment) (h : InStep m) (carrier : m.connection ≡ Carrier) where
  -- what the way down becomes
  abbrev came : List ℕ → List ℕ → Way
  came piece rest = run begins_note (comes (length piece - length rest)) m.ways.down

  came_run : (piece rest : List ℕ) → IsRun begins_note (came piece rest)
  came_run piece rest = run_on begins_note m.ways.down (comes (length piece - length rest)) h.down (comes_allowed (length piece - length rest))

  -- the part of a line that came, or the end of a note
  abbrev IsPartOf : List ℕ → Way → Type 0
  IsPartOf part down = (down.part ≡ part) × (down.handed ≡ m.ways.down.handed)

  part_came : (piece rest more part old : List ℕ) → m.ways.down.wire ≡ piece ++ more → old ≡ m.ways.down.part → GoesOn old piece part rest → IsPartOf part (came piece rest)
  part_came piece rest more part old wire same on =
      let is = part_comes begins_note m.ways.down piece more part rest wire (subst (λ p. GoesOn p piece part rest) same on) in
      (ap (λ (w : Way). w.part) is, ap (λ (w : Way). w.handed) is)

  note_came : (piece rest more part old : List ℕ) (text : Text) → m.ways.down.wire ≡ piece ++ more → old ≡ m.ways.down.part → begins_note text ≡ true
      → EndsLine old piece part rest text → IsPartOf part (came piece rest)
  note_came piece rest more part old text wire same is_note ends =
      let is = line_comes begins_note m.ways.down piece more part rest text wire (subst (λ p. EndsLine p piece part rest text) same ends) in
      (ap (λ (w : Way). w.part) is, ap (λ (w : Way). w.handed) is ∙ ap (λ b. with_read b text m.ways.down.handed) is_note)

  -- no line is handed on
  silent : (d : Link) (up down : Way) (part : List ℕ) → d ≡ record m.link { down = record m.link.down { part = part } } → up ≡ m.ways.up → IsRun begins_note down → IsPartOf part down
      → InStep (record m { link = d; ways = record { up = up; down = down } })
  silent d up down part same kept is came =
      let now : InStep (record m { link = record m.link { down = record m.link.down { part = part } }; ways = record m.ways { down = down } }) = record {
        up = h.up;
        down = is;
        said = h.said;
        told = came.1 ∙ h.told;
        stored = h.stored;
        dropped = h.dropped;
        kept = h.kept;
        taken = h.taken;
        confirming = h.confirming;
        few = h.few;
        stands = stands_silent m.link.carriage h.stands;
      } in
      subst (λ l. InStep (record m { link = l; ways = record { up = up; down = down } })) (sym same)
      (subst (λ u. InStep (record m { link = record m.link { down = record m.link.down { part = part } }; ways = record { up = u; down = down } })) (sym kept) now) where
        asks_silent : (x : Connection) → x ≡ Carrier → AsksBy x (record m.link { down = record m.link.down { part = part } }) (record m.ways { down = down })
        asks_silent Silent e = absurd cc
        asks_silent Carrier e = sym came.0
        asks_silent Stranger e = absurd cc

        stands_silent : (c : Carriage) → Stands c m.connection m.link m.ways → Stands c m.connection (record m.link { down = record m.link.down { part = part } }) (record m.ways { down = down })
        stands_silent Cut s = absurd (s.0 carrier)
        stands_silent Asking s = asks_silent m.connection carrier
        stands_silent Carried s = (s.0, sym came.0, s.2, s.3)
        stands_silent Last s = tt
        stands_silent Over s = tt

  -- the keeping end begins at a count, as the way up does
  place_of : (n : ℕ) → m.ways.up.place ≡ Some n → IsPlace m.link.up n
  place_of n place =
      let takes : IsPlace m.ways.up.keeper n = subst (λ p. TakesPlace m.ways.up.keeper p) place (keeps begins_note m.ways.up h.up).place in
      record { low = omega (arith, takes.low, h.dropped); high = omega (arith, takes.high, h.dropped, ap length h.kept) }

  begins : (n : ℕ) (d : Link) (down : Way) (part : List ℕ) → m.ways.up.place ≡ Some n → IsRun begins_note down → IsPartOf part down
      → d.up ≡ after_begin n m.link.up → d.carriage ≡ Carried → d.down ≡ record m.link.down { part = part } → d.confirming.taken ≡ m.link.confirming.taken
      → InStep (record m { link = d; ways = record { up = happens begins_note m.ways.up Begins; down = down } })
  begins n d down part place is came up carried taken confirming =
      let k = m.ways.up.keeper in
      let begun : happens begins_note m.ways.up Begins ≡ record m.ways.up { keeper = after_begin n k; place = None } = ap (λ p. with_place m.ways.up p) place in
      let opened : d.up ≡ after_begin n k = up ∙ ap (λ x. record { dropped = m.link.up.dropped; kept = m.link.up.kept; sent = n - x; is_open = true }) h.dropped
      ∙ ap (λ x. record { dropped = x; kept = m.link.up.kept; sent = n - k.dropped; is_open = true }) h.dropped
      ∙ ap (λ x. record { dropped = k.dropped; kept = x; sent = n - k.dropped; is_open = true }) h.kept in
      let now : InStep (record m { link = d; ways = record { up = record m.ways.up { keeper = after_begin n k; place = None }; down = down } }) = record {
        up = subst (IsRun begins_note) begun (run_on begins_note m.ways.up (Begins ∷ []) h.up (tt, tt));
        down = is;
        said = h.said;
        told = came.1 ∙ h.told;
        stored = h.stored;
        dropped = ap (λ (x : Keeping). x.dropped) opened;
        kept = ap (λ (x : Keeping). x.kept) opened;
        taken = ap (λ x. x.taken) taken ∙ h.taken;
        confirming = confirming ∙ h.confirming ∙ ap (λ x. x.taken) (sym taken);
        few = subst (λ x. x.taken ≤ 4294967295) (sym taken) h.few;
        stands = subst (λ c. Stands c m.connection d (record { up = record m.ways.up { keeper = after_begin n k; place = None }; down = down })) (sym carried)
            (carrier, ap (λ x. x.part) taken ∙ sym came.0, opened, ap (λ (x : Keeping). x.is_open) opened);
      } in
      subst (λ u. InStep (record m { link = d; ways = record { up = u; down = down } })) (sym begun) now

  -- the link with the part of a line that came
  abbrev with_part : List ℕ → Link
  with_part part = record m.link { down = record m.link.down { part = part } }

  -- the answer to the client's first line
  answered : (terms : Option Terms) (note : Note) (said : FirstAnswer) (part : List ℕ) (hh : Heard) (d : Link) (down : Way)
      → Answers terms note m.ways.up.place → SaysNote note said → IsAnswered terms said (with_part part) hh d → IsRun begins_note down → IsPartOf part down
      → InStep (record m { link = d; ways = record { up = happens begins_note m.ways.up Begins; down = down } }) × (lines_of hh ≡ [])
  answered None Hello said part hh d down honest says hears is came = absurd honest
  answered None (OpensLink token seconds kept) said part hh d down honest says hears is came = elim says [
    | inl opened ↦
        (let opens : Opens (answer.Opened (record { token = token; seconds = seconds; kept = kept })) (with_part part) hh d =
        subst (λ s. IsAnswered None s (with_part part) hh d) opened.1 hears in
        elim opens [
          | inl on ↦ (
            begins 0 d down part honest.1 is came (ap (λ (l : Link). l.up) on.1.1) (ap (λ (l : Link). l.carriage) on.1.1)
                (ap (λ (l : Link). l.down) on.1.1) (ap (λ (l : Link). l.confirming.taken) on.1.1),
            ap lines_of on.1.0,
          )
          | inr refused ↦ absurd (refused.0 (place_of 0 honest.1))
        ])
    | inr strange ↦ absurd (omega (arith, strange.0, honest.0))
  ]
  answered None (Resume token taken) said part hh d down honest says hears is came = absurd honest
  answered None (SaysResumed taken) said part hh d down honest says hears is came = absurd honest
  answered None (SaysEnded taken) said part hh d down honest says hears is came = absurd honest
  answered None (Got taken) said part hh d down honest says hears is came = absurd honest
  answered (Some terms) Hello said part hh d down honest says hears is came = absurd honest
  answered (Some terms) (OpensLink token seconds kept) said part hh d down honest says hears is came = absurd honest
  answered (Some terms) (Resume token taken) said part hh d down honest says hears is came = absurd honest
  answered (Some terms) (SaysResumed taken) said part hh d down honest says hears is came =
      let resumes : Resumes (answer.Resumed taken) (with_part part) hh d = subst (λ s. IsAnswered (Some terms) s (with_part part) hh d) says hears in
      elim resumes [
        | inl on ↦ (
          begins taken d down part honest is came (ap (λ (l : Link). l.up) on.1.1) (ap (λ (l : Link). l.carriage) on.1.1)
              (ap (λ (l : Link). l.down) on.1.1) (ap (λ (l : Link). l.confirming.taken) on.1.1),
          ap lines_of on.1.0,
        )
        | inr refused ↦ absurd (refused.0 (place_of taken honest))
      ]
  answered (Some terms) (SaysEnded taken) said part hh d down honest says hears is came = absurd honest
  answered (Some terms) (Got taken) said part hh d down honest says hears is came = absurd honest

  -- a part of that answer
  unanswered : (terms : Option Terms) (part : List ℕ) (hh : Heard) (d : Link) → IsAnswered terms answer.Nothing (with_part part) hh d → (hh ≡ heard.Nothing) × (d ≡ with_part part)
  unanswered None part hh d hears = hears
  unanswered (Some terms) part hh d hears = hears

  -- a `got`
  confirmed : (note : Note) (part : List ℕ) (hh : Heard) (d : Link) (down : Way) → Stands Carried m.connection m.link m.ways
      → Confirms note m.ways.up.counts → HearsNote note (with_part part) hh d → m.link.carriage ≡ Carried → IsRun begins_note down → IsPartOf part down
      → InStep (record m { link = d; ways = record { up = happens begins_note m.ways.up Hears; down = down } }) × (lines_of hh ≡ [])
  confirmed Hello part hh d down at honest hears carried is came = absurd honest
  confirmed (OpensLink token seconds kept) part hh d down at honest hears carried is came = absurd honest
  confirmed (Resume token taken) part hh d down at honest hears carried is came = absurd honest
  confirmed (SaysResumed taken) part hh d down at honest hears carried is came = absurd honest
  confirmed (SaysEnded taken) part hh d down at honest hears carried is came = absurd honest
  confirmed (Got taken) part hh d down at honest hears carried is came =
      let w = m.ways.up in
      let is_open : w.keeper.is_open ≡ true = ap (λ (x : Keeping). x.is_open) (sym at.2) ∙ at.3 in
      let next : IsGot w.keeper taken = subst (λ counts. TakesNext w.keeper counts) honest ((keeps begins_note w h.up).counts is_open) in
      let got : happens begins_note w Hears ≡ record w { keeper = after_got taken w.keeper; counts = drop 1 w.counts } =
      ap (λ b. hear_if w b) is_open ∙ ap (λ counts. with_count w counts) honest in
      elim hears [
        | inl on ↦
            (let up : d.up ≡ after_got taken w.keeper = ap (λ (l : Link). l.up) on.1.1 ∙ ap (after_got taken) at.2 in
            let now : InStep (record m { link = d; ways = record { up = record w { keeper = after_got taken w.keeper; counts = drop 1 w.counts }; down = down } }) = record {
              up = subst (IsRun begins_note) got (run_on begins_note w (Hears ∷ []) h.up (tt, tt));
              down = is;
              said = h.said;
              told = came.1 ∙ h.told;
              stored = h.stored;
              dropped = ap (λ (x : Keeping). x.dropped) up;
              kept = ap (λ (x : Keeping). x.kept) up;
              taken = ap (λ (l : Link). l.down.taken) on.1.1 ∙ h.taken;
              confirming = ap (λ (l : Link). l.confirming.taken) on.1.1 ∙ h.confirming ∙ ap (λ (l : Link). l.down.taken) (sym on.1.1);
              few = subst (λ (l : Link). l.down.taken ≤ 4294967295) (sym on.1.1) h.few;
              stands = subst (λ c. Stands c m.connection d (record { up = record w { keeper = after_got taken w.keeper; counts = drop 1 w.counts }; down = down }))
                  (sym (ap (λ (l : Link). l.carriage) on.1.1 ∙ carried))
                  (at.0, ap (λ (l : Link). l.down.part) on.1.1 ∙ sym came.0, up, ap (λ (x : Keeping). x.is_open) up ∙ is_open);
            } in
            (subst (λ u. InStep (record m { link = d; ways = record { up = u; down = down } })) (sym got) now, ap lines_of on.1.0))
        | inr refused ↦ absurd (refused.0 (subst (λ x. IsGot x taken) (sym at.2) next))
      ]

  -- a line of the link
  stands_taken : (k : LineKind) (part : List ℕ) (down : Way) → Stands Carried m.connection m.link m.ways → m.link.carriage ≡ Carried → down.part ≡ part
      → Stands (with_taken k (with_part part)).carriage m.connection (with_taken k (with_part part)) (record m.ways { down = down })
  stands_taken kind.Ready part down at carried came =
      subst (λ c. Stands c m.connection (with_taken kind.Ready (with_part part)) (record m.ways { down = down })) (sym carried) (at.0, sym came, at.2, at.3)
  stands_taken kind.Last part down at carried came = tt
  stands_taken kind.Other part down at carried came =
      subst (λ c. Stands c m.connection (with_taken kind.Other (with_part part)) (record m.ways { down = down })) (sym carried) (at.0, sym came, at.2, at.3)

  line_taken : (text : Text) (part : List ℕ) (hh : Heard) (d : Link) (down : Way) → Stands Carried m.connection m.link m.ways → m.link.down.taken < 4294967295
      → HearsText text (with_part part) hh d → m.link.carriage ≡ Carried → IsRun begins_note down → down.part ≡ part → down.handed ≡ m.ways.down.handed ++ text ∷ []
      → Follows m hh d m.ways.up down
  line_taken text part hh d down at room hears carried is came handed = elim hears [
    | inl taken ↦
        (let k = taken.2.0 in
        let l = with_taken k (with_part part) in
        let now : InStep (record m { link = l; ways = record m.ways { down = down }; told = m.told ++ text ∷ [] }) = record {
          up = h.up;
          down = is;
          said = h.said;
          told = handed ∙ ap (λ told. told ++ text ∷ []) h.told;
          stored = h.stored;
          dropped = h.dropped;
          kept = h.kept;
          taken = ap (λ n. n + 1) h.taken ∙ sym (length-append m.told (text ∷ []));
          confirming = refl;
          few = omega (arith, room);
          stands = stands_taken k part down at carried came;
        } in
        subst (λ x. InStep (record m { link = x; ways = record m.ways { down = down }; told = m.told ++ lines_of hh })) (sym taken.2.2)
        (subst (λ x. InStep (record m { link = l; ways = record m.ways { down = down }; told = m.told ++ lines_of x })) (sym taken.1) now))
    | inr spent ↦ absurd (omega (arith, spent.0, room))
  ]

  line_came : (piece rest more part old : List ℕ) (text : Text) → m.ways.down.wire ≡ piece ++ more → old ≡ m.ways.down.part → begins_note text ≡ false
      → EndsLine old piece part rest text → ((came piece rest).part ≡ part) × ((came piece rest).handed ≡ m.ways.down.handed ++ text ∷ [])
  line_came piece rest more part old text wire same no_note ends =
      let is = line_comes begins_note m.ways.down piece more part rest text wire (subst (λ p. EndsLine p piece part rest text) same ends) in
      (ap (λ (w : Way). w.part) is, ap (λ (w : Way). w.handed) is ∙ ap (λ b. with_read b text m.ways.down.handed) no_note)

  told_none : (hh : Heard) (d : Link) (v : Ways) → lines_of hh ≡ [] → InStep (record m { link = d; ways = v }) → InStep (record m { link = d; ways = v; told = m.told ++ lines_of hh })
  told_none hh d v none now = subst (λ lines. InStep (record m { link = d; ways = v; told = m.told ++ lines })) (sym none) (none_told m d v now)

  -- a carrier's client has the part of a line that came
  asked : AsksBy m.connection m.link m.ways → m.link.down.part ≡ m.ways.down.part
  asked s = subst (λ x. AsksBy x m.link m.ways) carrier s

  -- what a piece of the carrier brings
  pub heard_by : (c : Carriage) (arrival : Arrival) (piece rest more part : List ℕ) (hh : Heard) (d : Link) → m.link.carriage ≡ c → m.ways.down.wire ≡ piece ++ more
      → Brings m.link.down.part piece arrival part rest → HearsIn c arrival (with_part part) hh d → TellsTruth c arrival m.link m.ways.up
      → Follows m hh d (with_note c arrival m.ways.up) (came piece rest)
  heard_by Cut arrival piece rest more part hh d at wire brings hears honest = absurd honest
  heard_by Asking Part piece rest more part hh d at wire brings hears honest =
      let s : m.link.down.part ≡ m.ways.down.part = asked (subst (λ c. Stands c m.connection m.link m.ways) at h.stands) in
      let only = unanswered m.link.terms part hh d (subst (λ said. IsAnswered m.link.terms said (with_part part) hh d) hears.1 hears.2) in
      told_none hh d (record { up = m.ways.up; down = came piece rest }) (ap lines_of only.0)
      (silent d m.ways.up (came piece rest) part only.1 refl (came_run piece rest) (part_came piece rest more part m.link.down.part wire s brings))
  heard_by Asking (IsNoteLine note) piece rest more part hh d at wire brings hears honest =
      let s : m.link.down.part ≡ m.ways.down.part = asked (subst (λ c. Stands c m.connection m.link m.ways) at h.stands) in
      let now = answered m.link.terms note hears.0 part hh d (came piece rest) honest hears.1 hears.2 (came_run piece rest)
      (note_came piece rest more part m.link.down.part (note_text note) wire s (is_note note) brings.1) in
      told_none hh d (record { up = happens begins_note m.ways.up Begins; down = came piece rest }) now.1 now.0
  heard_by Asking (IsLine text) piece rest more part hh d at wire brings hears honest = absurd honest
  heard_by Asking (IsLongLine text) piece rest more part hh d at wire brings hears honest = absurd honest
  heard_by Carried Part piece rest more part hh d at wire brings hears honest =
      let s : Stands Carried m.connection m.link m.ways = subst (λ c. Stands c m.connection m.link m.ways) at h.stands in
      told_none hh d (record { up = m.ways.up; down = came piece rest }) (ap lines_of hears.0)
      (silent d m.ways.up (came piece rest) part hears.1 refl (came_run piece rest) (part_came piece rest more part m.link.down.part wire s.1 brings))
  heard_by Carried (IsNoteLine note) piece rest more part hh d at wire brings hears honest =
      let s : Stands Carried m.connection m.link m.ways = subst (λ c. Stands c m.connection m.link m.ways) at h.stands in
      let now = confirmed note part hh d (came piece rest) s honest hears at (came_run piece rest)
      (note_came piece rest more part m.link.down.part (note_text note) wire s.1 (is_note note) brings.1) in
      told_none hh d (record { up = happens begins_note m.ways.up Hears; down = came piece rest }) now.1 now.0
  heard_by Carried (IsLine text) piece rest more part hh d at wire brings hears honest =
      let s : Stands Carried m.connection m.link m.ways = subst (λ c. Stands c m.connection m.link m.ways) at h.stands in
      let line = line_came piece rest more part m.link.down.part text wire s.1 honest.0 brings.1 in
      line_taken text part hh d (came piece rest) s honest.1 hears at (came_run piece rest) line.0 line.1
  heard_by Carried (IsLongLine text) piece rest more part hh d at wire brings hears honest = absurd honest
  heard_by Last arrival piece rest more part hh d at wire brings hears honest = absurd honest
  heard_by Over arrival piece rest more part hh d at wire brings hears honest = absurd honest

pub hears_carrier : (piece rest : List ℕ) (hh : Heard) (m n : Moment) → HearsCarrier piece hh rest m n → InStep m → InStep n
hears_carrier piece rest hh m n heard h =
    let hears = heard.hears in
    let now = heard_by m h heard.carrier m.link.carriage hears.0 piece rest heard.more hears.1 hh n.link refl heard.brought hears.2 hears.3 heard.honest in
    subst InStep (sym heard.same)
    (subst (λ up. InStep (record m { link = n.link; ways = record { up = up; down = n.ways.down }; told = m.told ++ lines_of hh })) (sym heard.up)
    (subst (λ down. InStep (record m { link = n.link; ways = record { up = with_note m.link.carriage hears.0 m.ways.up; down = down }; told = m.told ++ lines_of hh })) (sym heard.down) now))

-- The bytes of another connection.

-- the same client, at a connection that carries no way
strange : (m : Moment) → m.link.carriage ≡ Asking → InStep m → InStep (record m { connection = Stranger })
strange m asks h = record {
  up = h.up;
  down = h.down;
  said = h.said;
  told = h.told;
  stored = h.stored;
  dropped = h.dropped;
  kept = h.kept;
  taken = h.taken;
  confirming = h.confirming;
  few = h.few;
  stands = subst (λ c. Stands c Stranger m.link m.ways) (sym asks) tt;
}

-- no line of the ways is in the part that came
abbrev IsDeaf : Carriage → Connection → Type 0
IsDeaf Cut x = ⊥
IsDeaf Asking x = x ≡ Stranger
IsDeaf Carried x = ⊥
IsDeaf Last x = Unit {0}
IsDeaf Over x = Unit {0}

part_kept : (m : Moment) (part : List ℕ) (c : Carriage) → m.link.carriage ≡ c → IsDeaf c m.connection → InStep m
    → InStep (record m { link = record m.link { down = record m.link.down { part = part } } })
part_kept m part c at deaf h = record {
  up = h.up;
  down = h.down;
  said = h.said;
  told = h.told;
  stored = h.stored;
  dropped = h.dropped;
  kept = h.kept;
  taken = h.taken;
  confirming = h.confirming;
  few = h.few;
  stands = subst (λ x. Stands x m.connection l m.ways) (sym at) (stands_deaf c deaf);
} where
  l : Link
  l = record m.link { down = record m.link.down { part = part } }

  stands_deaf : (c : Carriage) → IsDeaf c m.connection → Stands c m.connection l m.ways
  stands_deaf Cut is = absurd is
  stands_deaf Asking is = subst (λ x. AsksBy x l m.ways) (sym is) tt
  stands_deaf Carried is = absurd is
  stands_deaf Last is = tt
  stands_deaf Over is = tt

-- the answer to a client's first line hands on no line

no_line_begun : (number : ℕ) (arrived : Option ℕ) (c d : Link) (hh : Heard) → Forgets number arrived c hh d → lines_of hh ≡ []
no_line_begun number arrived c d hh (inl over) = ap lines_of over.1
no_line_begun number arrived c d hh (inr again) = ap lines_of again.1

no_line : (terms : Option Terms) (said : FirstAnswer) (c d : Link) (hh : Heard) → IsAnswered terms said c hh d → lines_of hh ≡ []
no_line None answer.Nothing c d hh hears = ap lines_of hears.0
no_line None (answer.Opened terms) c d hh (inl on) = ap lines_of on.1.0
no_line None (answer.Opened terms) c d hh (inr refused) = ap lines_of refused.1.0
no_line None (answer.Resumed taken) c d hh hears = ap lines_of hears.0
no_line None (answer.Ended taken) c d hh hears = ap lines_of hears.0
no_line None (answer.Refused number) c d hh hears = ap lines_of hears.0
no_line None answer.Strange c d hh hears = ap lines_of hears.0
no_line (Some t) answer.Nothing c d hh hears = ap lines_of hears.0
no_line (Some t) (answer.Opened terms) c d hh hears = ap lines_of hears.0
no_line (Some t) (answer.Resumed taken) c d hh (inl on) = ap lines_of on.1.0
no_line (Some t) (answer.Resumed taken) c d hh (inr refused) = ap lines_of refused.1.0
no_line (Some t) (answer.Ended taken) c d hh (inl known) = no_line_begun 35 _ c d hh known.1
no_line (Some t) (answer.Ended taken) c d hh (inr unknown) = no_line_begun 35 _ c d hh unknown.1
no_line (Some t) (answer.Refused number) c d hh (inl final) = no_line_begun number _ c d hh final.1
no_line (Some t) (answer.Refused number) c d hh (inr strange) = ap lines_of strange.1.0
no_line (Some t) answer.Strange c d hh hears = ap lines_of hears.0

-- where none is handed on, the client told none
same_told : (m : Moment) (hh : Heard) → lines_of hh ≡ [] → InStep m → InStep (record m { told = m.told ++ lines_of hh })
same_told m hh none h = subst (λ told. InStep (record m { told = told })) (sym (ap (λ lines. m.told ++ lines) none ∙ append-nil m.told)) h

module _ (m : Moment) (h : InStep m) (stranger : m.connection ≡ Stranger) where
  is_broken : InStep (record m { link = broken m.link })
  is_broken = record {
    up = h.up;
    down = h.down;
    said = h.said;
    told = h.told;
    stored = h.stored;
    dropped = h.dropped;
    kept = h.kept;
    taken = h.taken;
    confirming = h.confirming;
    few = h.few;
    stands = stands_lost m.link.carriage;
  } where
    no_carrier : m.connection ≢ Carrier
    no_carrier e = let clash : Stranger ≡ Carrier = sym stranger ∙ e in absurd cc

    stands_lost : (c : Carriage) → Stands (cut_of c) m.connection (broken m.link) m.ways
    stands_lost Cut = (no_carrier, refl)
    stands_lost Asking = (no_carrier, refl)
    stands_lost Carried = (no_carrier, refl)
    stands_lost Last = tt
    stands_lost Over = tt

  is_left : (d : Link) → d ≡ given_up m.link → InStep (record m { link = d })
  is_left d same = subst (λ l. InStep (record m { link = l })) (sym same) (gives_up m h)

  is_lost : (hh : Heard) (d : Link) → (hh ≡ heard.Lost) × (d ≡ broken m.link) → InStep (record m { link = d })
  is_lost hh d loses = subst (λ l. InStep (record m { link = l })) (sym loses.1) is_broken

  is_forgotten : (number : ℕ) (arrived : Option ℕ) (hh : Heard) (d : Link) → hh ≢ heard.Begins → Forgets number arrived m.link hh d → InStep (record m { link = d })
  is_forgotten number arrived hh d one forgets = elim forgets [
    | inl ready ↦
        (let left : InStep (record m { link = given_up (broken m.link) }) = gives_up (record m { link = broken m.link }) is_broken in
        subst (λ l. InStep (record m { link = l })) (sym ready.2)
        (same_ends (record m { link = given_up (broken m.link) }) (record (given_up (broken m.link)) { arrived = arrived }) refl refl refl refl left))
    | inr again ↦ absurd (one again.1)
  ]

  is_same : (hh : Heard) (d : Link) → (hh ≡ heard.Nothing) × (d ≡ m.link) → InStep (record m { link = d })
  is_same hh d only = subst (λ l. InStep (record m { link = l })) (sym only.1) h

  -- the answer of a connection that does not carry the link
  pub other_answer : (terms : Option Terms) (said : FirstAnswer) (hh : Heard) (d : Link) → d.carriage ≢ Carried → hh ≢ heard.Begins → IsAnswered terms said m.link hh d
      → InStep (record m { link = d })
  other_answer None answer.Nothing hh d shut one hears = is_same hh d hears
  other_answer None (answer.Opened terms) hh d shut one hears = elim hears [
    | inl on ↦ absurd (shut (ap (λ (l : Link). l.carriage) on.1.1))
    | inr refused ↦ is_left d refused.1.1
  ]
  other_answer None (answer.Resumed taken) hh d shut one hears = is_lost hh d hears
  other_answer None (answer.Ended taken) hh d shut one hears = is_lost hh d hears
  other_answer None (answer.Refused number) hh d shut one hears = is_left d hears.1
  other_answer None answer.Strange hh d shut one hears = is_lost hh d hears
  other_answer (Some t) answer.Nothing hh d shut one hears = is_same hh d hears
  other_answer (Some t) (answer.Opened terms) hh d shut one hears = is_lost hh d hears
  other_answer (Some t) (answer.Resumed taken) hh d shut one hears = elim hears [
    | inl on ↦ absurd (shut (ap (λ (l : Link). l.carriage) on.1.1))
    | inr refused ↦ is_left d refused.1.1
  ]
  other_answer (Some t) (answer.Ended taken) hh d shut one hears = elim hears [
    | inl known ↦ is_forgotten 35 _ hh d one known.1
    | inr unknown ↦ is_forgotten 35 _ hh d one unknown.1
  ]
  other_answer (Some t) (answer.Refused number) hh d shut one hears = elim hears [
    | inl final ↦ is_forgotten number _ hh d one final.1
    | inr strange ↦ is_lost hh d strange.1
  ]
  other_answer (Some t) answer.Strange hh d shut one hears = is_lost hh d hears

pub hears_other : (piece rest : List ℕ) (hh : Heard) (m n : Moment) → HearsOther piece hh rest m n → InStep m → InStep n
hears_other piece rest hh m n heard h =
    let hears = heard.hears in
    let l : Link = record m.link { down = record m.link.down { part = hears.1 } } in
    let part : InStep (record m { link = l; connection = Stranger }) = part_kept (record m { connection = Stranger }) hears.1 Asking heard.asks refl (strange m heard.asks h) in
    let said : HearsIn Asking hears.0 l hh n.link = subst (λ c. HearsIn c hears.0 l hh n.link) heard.asks hears.3 in
    subst InStep (sym heard.same)
    (same_told (record m { link = n.link; connection = Stranger }) hh (no_line m.link.terms said.0 l n.link hh said.2)
    (other_answer (record m { link = l; connection = Stranger }) part refl m.link.terms said.0 hh n.link heard.shut heard.one_link said.2))

-- bytes that are dropped
dropped : (m n : Moment) (part : List ℕ) (hh : Heard) (c : Carriage) → m.link.carriage ≡ c → IsDeaf c m.connection
    → (hh ≡ heard.Nothing) × (n.link ≡ record m.link { down = record m.link.down { part = part } }) → n ≡ record m { link = n.link; told = m.told ++ lines_of hh } → InStep m → InStep n
dropped m n part hh c at deaf only same h =
    subst InStep (sym same)
    (same_told (record m { link = n.link }) hh (ap lines_of only.0) (subst (λ x. InStep (record m { link = x })) (sym only.1) (part_kept m part c at deaf h)))

pub hears_nothing : (piece rest : List ℕ) (hh : Heard) (m n : Moment) → HearsNothing piece hh rest m n → InStep m → InStep n
hears_nothing piece rest hh m n heard h =
    let hears = heard.hears in
    let l : Link = record m.link { down = record m.link.down { part = hears.1 } } in
    elim heard.over [
      | inl last ↦ dropped m n hears.1 hh Last last tt (subst (λ c. HearsIn c hears.0 l hh n.link) last hears.3) heard.same h
      | inr over ↦ dropped m n hears.1 hh Over over tt (subst (λ c. HearsIn c hears.0 l hh n.link) over hears.3) heard.same h
    ]
