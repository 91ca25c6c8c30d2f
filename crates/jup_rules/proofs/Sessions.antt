-- What a line of a site leads to.
use Rattle.std.proofs.Common.{◌≡◌, Bool, true, false, List, [], ◌∷◌, ◌++◌, map, Option, Some, None, Result, Ok, Err, IfErr, inr, refl, sym, ap, ◌∙◌, ℕ, ◌+◌, ◌-◌, ◌≤◌, IfOk, inl, subst, append-nil, arith, count_by, option_to_list}
use Rattle.std.proofs.lemmas.Bool.{false≢true}
use Rattle.std.proofs.Math.Nat.{min-le_left, min-le_right, le-min, le_antisymm}
use Rattle.std.proofs.lemmas.List.{map-append}
use Rattle.std.proofs.lemmas.List.Sums.{sum_by-append}
use Rattle.jup_rules.specs.Prelude.{BoardBatch, UpOp, UpAck, UpPing, Up, Line, Gathered, Said, SaysUp, SaysBye, StreamFault, Gate, said_piece}
use Rattle.jup_wire.specs.declared.line.Line.TheVariants as wire
use Rattle.jup_gather.specs.Gathering.{Piece, Alone, Gathers, HasGathered, pieces_of, up_in, message_given}
use Rattle.jup_gather.proofs.Gathering.{one_piece}
use Rattle.jup_rules.specs.Sessions.{said_by, IsSaidBy, IsUnsaid, IsRefused, HasSaid, Keeper, says_edit, counted, HasHeard, incoming_of, edits_with, next_of, edits_after, Leads}
use Rattle.jup_gather.specs.declared.gathered.Gathered.TheVariants.{Whole, Plain, Held, Misplaced}

-- What a line of a site is that is refused.

-- the lines that a site says alone
says : Line → Bool
says (wire.Ack n) = true
says (wire.Ping k) = true
says wire.Bye = true
says other = false

not_said : (l : Line) (said : Said) → says l ≡ false → Alone l ∷ [] ≡ said_piece said ∷ [] → ⊥
unfolding says
not_said l (SaysUp (UpOp m)) not is = cc
not_said l (SaysUp (UpAck n)) not is = let same : l ≡ wire.Ack n = cc in false≢true (sym not ∙ ap says same)
not_said l (SaysUp (UpPing k)) not is = let same : l ≡ wire.Ping k = cc in false≢true (sym not ∙ ap says same)
not_said l SaysBye not is = let same : l ≡ wire.Bye = cc in false≢true (sym not ∙ ap says same)

-- what a site says by what lines give
pub is_said : (gathered : Gathered) → IsSaidBy gathered (said_by (message_given up_in gathered))
unfolding says
is_said (Whole m) = refl
is_said (Plain (wire.Ack n)) = refl
is_said (Plain (wire.Ping k)) = refl
is_said (Plain wire.Bye) = refl
is_said (Plain other) = (refl, λ held. cc, λ said is. not_said other said refl is)
is_said Held = refl
is_said Misplaced = (refl, λ held. cc, λ said is. cc)

unsaid : (held new : Option (List Line)) (line : Line) (gathered : Gathered) (fault : StreamFault) → Gathers held line gathered new → IsSaidBy gathered (Err fault) → IsUnsaid held line
unsaid None new line gathered fault step none = tt
unsaid (Some part) new line (Whole m) fault step none = absurd (none.2 (SaysUp (UpOp m)) refl)
unsaid (Some part) new line (Plain plain) fault step none = λ said more later is e.
    let same = one_piece (Alone line) (said_piece said) more later step.1 is (ap (λ ls. ls ++ line ∷ more) (sym step.0) ∙ e) in
    none.2 said (ap (λ l. Alone l ∷ []) step.2 ∙ ap (λ (p : Piece). p ∷ []) same.0)
unsaid (Some part) new line Held fault step none = absurd (none.1 refl)
unsaid (Some part) new line Misplaced fault step none = λ said more later is. step.0 more (said_piece said) later is

-- of a line that was gathered: what the site said so far is what all the lines so far say
pub said_so : (gathered : Gathered) (result : Result (Option Said) StreamFault) (old new : Option (List Line)) (line : Line) → IsSaidBy gathered result
    → ((lines : List Line) (pieces : List Piece) → HasGathered lines pieces old → HasGathered (lines ++ line ∷ []) (pieces ++ pieces_of gathered) new)
    → IfOk result (λ said. (lines : List Line) (saids : List Said) → HasSaid lines saids old → HasSaid (lines ++ line ∷ []) (saids ++ option_to_list said) new)
said_so gathered (Ok (Some said)) old new line is more = λ lines saids has.
    subst (λ (ps : List Piece). HasGathered (lines ++ line ∷ []) ps new) (ap (λ (ps : List Piece). map said_piece saids ++ ps) is ∙ sym (map-append said_piece saids (said ∷ [])))
    (more lines (map said_piece saids) has)
said_so gathered (Ok None) old new line is more = λ lines saids has.
    subst (λ (ps : List Piece). HasGathered (lines ++ line ∷ []) ps new)
    (ap (λ (g : Gathered). map said_piece saids ++ pieces_of g) is ∙ append-nil (map said_piece saids) ∙ ap (λ (ss : List Said). map said_piece ss) (sym (append-nil saids)))
    (more lines (map said_piece saids) has)
said_so gathered (Err fault) old new line is more = tt

-- of a line that was gathered a refusal says that by it no site says anything
pub refused_unsaid : (held new : Option (List Line)) (line : Line) (gathered : Gathered) (result : Result (Option Said) StreamFault) → Gathers held line gathered new → IsSaidBy gathered result
    → IfErr result (λ fault. IsRefused fault held line new)
refused_unsaid held new line gathered (Ok said) step is = tt
refused_unsaid held new line gathered (Err fault) step is = inr (is.0, unsaid held new line gathered fault step is)

-- What a line of a site leads to, by what the site says by it.

-- one more edit, if the count may have stopped
counted_more : (n : ℕ) → counted (counted n + 1) ≡ counted (n + 1)
counted_more n =
    let low : counted n ≤ n = min-le_left n 4294967295 in
    let one : counted (counted n + 1) ≤ counted n + 1 = min-le_left (counted n + 1) 4294967295 in
    let here : counted (counted n + 1) ≤ n + 1 = omega (arith, low, one) in
    let there : counted (n + 1) ≤ n + 1 = min-le_left (n + 1) 4294967295 in
    let most : counted (n + 1) ≤ 4294967295 = min-le_right (n + 1) 4294967295 in
    let before : counted (n + 1) - 1 ≤ n = omega (arith, there) in
    let below : counted (n + 1) - 1 ≤ 4294967295 = omega (arith, most) in
    let back : counted (n + 1) - 1 ≤ counted n = le-min before below in
    let again : counted (n + 1) ≤ counted n + 1 = omega (arith, back) in
    le_antisymm (le-min here (min-le_right (counted n + 1) 4294967295)) (le-min again most)

-- one more that the site says
count_more : (saids : List Said) (said : Said) → count_by says_edit (saids ++ said ∷ []) ≡ count_by says_edit saids + count_by says_edit (said ∷ [])
count_more saids said = sum_by-append _ saids (said ∷ [])

-- how many edits a message makes them
edits_more : (edits : ℕ) (saids : List Said) (up : Up BoardBatch) → edits ≡ counted (count_by says_edit saids) → edits_with edits up ≡ counted (count_by says_edit (saids ++ SaysUp up ∷ []))
edits_more edits saids (UpOp msg) is =
    ap (λ (n : ℕ). counted (n + 1)) is ∙ counted_more (count_by says_edit saids) ∙ ap counted (sym (count_more saids (SaysUp (UpOp msg))))
edits_more edits saids (UpAck count) is = let more = count_more saids (SaysUp (UpAck count)) in let same : count_by says_edit (saids ++ SaysUp (UpAck count) ∷ []) ≡ count_by says_edit saids = omega (arith, more) in is ∙ ap counted (sym same)
edits_more edits saids (UpPing number) is = let more = count_more saids (SaysUp (UpPing number)) in let same : count_by says_edit (saids ++ SaysUp (UpPing number) ∷ []) ≡ count_by says_edit saids = omega (arith, more) in is ∙ ap counted (sym same)

edits_bye : (edits : ℕ) (saids : List Said) → edits ≡ counted (count_by says_edit saids) → edits ≡ counted (count_by says_edit (saids ++ SaysBye ∷ []))
edits_bye edits saids is = let more = count_more saids SaysBye in let same : count_by says_edit (saids ++ SaysBye ∷ []) ≡ count_by says_edit saids = omega (arith, more) in is ∙ ap counted (sym same)

-- a count that has stopped asks for the same
same_incoming : (edits n : ℕ) (up : Up BoardBatch) → edits ≡ counted n → incoming_of edits up ≡ incoming_of n up
same_incoming edits n (UpOp msg) is = ap (λ (k : ℕ). record { up = UpOp msg; awaits = Gate k }) (ap (λ (m : ℕ). counted (m + 1)) is ∙ counted_more n)
same_incoming edits n (UpAck count) is = refl
same_incoming edits n (UpPing number) is = refl

pub leads : (lines : List Line) (saids : List Said) (old : Keeper) (line : Line) (said : Result (Option Said) StreamFault) (held : Option (List Line)) → HasHeard lines saids old
    → IfOk said (λ s. (ls : List Line) (ss : List Said) → HasSaid ls ss old.0 → HasSaid (ls ++ line ∷ []) (ss ++ option_to_list s) held)
    → IfErr said (λ fault. IsRefused fault old.0 line held)
    → Leads lines saids old line (next_of old.1 said) (held, edits_after old.1 said)
leads lines saids old line (Ok None) held heard said refused = (subst (λ (ss : List Said). HasSaid (lines ++ line ∷ []) ss held) (append-nil saids) (said lines saids heard.0), heard.1)
leads lines saids old line (Ok (Some (SaysUp up))) held heard said refused = (
  (said lines saids heard.0, edits_more old.1 saids up heard.1),
  same_incoming old.1 (count_by says_edit saids) up heard.1,
)
leads lines saids old line (Ok (Some SaysBye)) held heard said refused = inl (refl, (said lines saids heard.0, edits_bye old.1 saids heard.1))
leads lines saids old line (Err fault) held heard said refused = inr (fault, refl, refused)
