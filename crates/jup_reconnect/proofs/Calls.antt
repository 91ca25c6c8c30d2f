-- What a call does in a run is what its contract says.
use Rattle.std.proofs.Common.{◌≡◌, ◌⊎◌, ℕ, List, [], ◌∷◌, ◌++◌, map, Result, Ok, Err, refl, sym, ap, ◌∙◌, subst, inl, inr}
use Rattle.jup_resume.specs.Texts.{Text}
use Rattle.jup_lasting.specs.Links.{Link, HearsPiece, MovesOut}
use Rattle.jup_lasting.specs.Runs.{Moment, Step, Ask, Cut, GiveUp, Put, MoveOut as MovesBytes, Hear, NoteBytes, Elapse, Serve, Restart, Carry, CarryLate, Leads, HearsBytes}
use Rattle.jup_lasting.specs.declared.link.Heard.{Heard}
use Rattle.jup_reconnect.specs.declared.faults.LastingFault.{LastingFault}
use Rattle.jup_reconnect.specs.Lasting.{HearsOne, Through, StopsAt, FeedsLasting, MovesSaid, with_bytes, with_texts}
use Rattle.jup_reconnect.specs.Runs.{Situation, client_of, Call, Feed, MoveOut, OfLink, OfUser, HearsOn, Passes, noted, IsFed, MovesOn, Does, IsCall}

hears_piece : (piece rest : List ℕ) (h : Heard) (m n : Moment) → HearsBytes piece h rest m n → HearsPiece piece m.link h rest n.link
hears_piece piece rest h m n (inl carrier) = carrier.hears
hears_piece piece rest h m n (inr (inl other)) = other.hears
hears_piece piece rest h m n (inr (inr nothing)) = nothing.hears

hears_one : (piece : List ℕ) (r : Result (Unit {0}) LastingFault) (rest : List ℕ) (s t : Situation) → HearsOn piece r rest s t → HearsOne piece (client_of s) r rest (client_of t)
hears_one piece r rest s t hears = (hears.h, hears.middle.link, hears_piece piece rest hears.h s.moment hears.middle hears.hears, hears.handles)

through : (lefts : List (List ℕ)) (bytes left : List ℕ) (s t : Situation) → Passes lefts bytes left s t → Through lefts bytes left (client_of s) (client_of t)
through [] bytes left s t passes = (passes.0, ap client_of passes.1)
through (rest ∷ lefts) bytes left s t passes = (client_of passes.0, hears_one bytes (Ok tt) rest s passes.0 passes.1, through lefts rest left passes.0 t passes.2)

noted_bytes : (bytes : List ℕ) (s : Situation) → client_of (noted bytes s) ≡ with_bytes bytes (client_of s)
noted_bytes [] s = refl
noted_bytes (byte ∷ bytes) s = refl

fed : (bytes : List ℕ) (s t : Situation) → IsFed bytes s t → FeedsLasting bytes (client_of s) (client_of t) ⊎ ((fault : LastingFault) × StopsAt bytes (with_bytes bytes (client_of s)) fault (client_of t))
fed bytes s t is =
    let passes = subst (λ c. Through is.lefts bytes is.left c (client_of is.middle)) (noted_bytes bytes s) (through is.lefts bytes is.left (noted bytes s) is.middle is.passes) in
    elim is.ends [
      | inl all ↦
          inl (
            is.lefts,
            subst (λ d. Through is.lefts bytes [] (with_bytes bytes (client_of s)) d) (ap client_of (sym all.1))
                (subst (λ left. Through is.lefts bytes left (with_bytes bytes (client_of s)) (client_of is.middle)) all.0 passes),
          )
      | inr refused ↦ inr (refused.0, (is.lefts, is.left, refused.1, client_of is.middle, passes, hears_one is.left (Err refused.0) refused.1 is.middle t refused.2))
    ]

-- the link that bytes are moved out of is the one with the lines that were put
moves_out : (texts : List Text) (bytes : List ℕ) (m n : Moment) → Leads (map Put texts ++ MovesBytes bytes ∷ []) m n → MovesOut bytes (with_texts texts m.link) n.link
moves_out [] bytes m n leads = subst (λ (l : Link). MovesOut bytes m.link l) (ap (λ (x : Moment). x.link) (sym leads.2)) leads.1.0
moves_out (text ∷ texts) bytes m n leads =
    subst (λ (l : Link). MovesOut bytes (with_texts texts l) n.link) (ap (λ (x : Moment). x.link) leads.1.1) (moves_out texts bytes leads.0 n leads.2)

moved : (bytes : List ℕ) (s t : Situation) → MovesOn bytes s t → MovesSaid bytes (client_of s) (client_of t)
moved bytes s t is = (
  is.middle,
  is.puts,
  subst (λ (l : Link). MovesOut bytes l t.moment.link) (sym is.puts.put) (moves_out is.puts.texts bytes s.moment t.moment is.leads),
  is.same,
)

of_link : (step : Step) (s t : Situation) → Does (OfLink step) s t → IsCall (OfLink step) (client_of s) (client_of t)
of_link Ask s t does = ap client_of does.2 ∙ ap (λ (m : Moment). client_of (record s { moment = m })) does.1.1
of_link Cut s t does = ap client_of does.2 ∙ ap (λ (m : Moment). client_of (record s { moment = m })) does.1
of_link GiveUp s t does = absurd does.0
of_link (Put text) s t does = absurd does.0
of_link (MovesBytes bytes) s t does = absurd does.0
of_link (Hear piece) s t does = absurd does.0
of_link NoteBytes s t does = absurd does.0
of_link (Elapse seconds) s t does = ap client_of does.2 ∙ ap (λ (m : Moment). client_of (record s { moment = m })) does.1
of_link (Serve ups downs) s t does = ap client_of does.2 ∙ ap (λ (m : Moment). client_of (record s { moment = m })) does.1.2
of_link (Restart lost) s t does = ap client_of does.2 ∙ ap (λ (m : Moment). client_of (record s { moment = m })) does.1.1
of_link Carry s t does = ap client_of does.2 ∙ ap (λ (m : Moment). client_of (record s { moment = m })) does.1.2
of_link CarryLate s t does = ap client_of does.2 ∙ ap (λ (m : Moment). client_of (record s { moment = m })) does.1.1

pub is_call : (call : Call) (s t : Situation) → Does call s t → IsCall call (client_of s) (client_of t)
is_call (Feed bytes) s t does = fed bytes s t does
is_call (MoveOut bytes) s t does = moved bytes s t does
is_call (OfLink step) s t does = of_link step s t does
is_call (OfUser act) s t does = (does.0, ap client_of does.1)
