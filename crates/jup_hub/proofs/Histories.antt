-- Histories with more calls, and what calls say.
use Rattle.std.proofs.Common.{◌≡◌, ◌≢◌, ℕ, suc, Bool, true, false, cond, ◌⊎◌, List, [], ◌∷◌, ◌++◌, bytes_eq, sym, refl, ap, ◌∙◌, inl, inr, true≢false, append_assoc, append-nil, max, length, length-append, arith, ◌≤◌, ◌+◌, Option, Result, Ok, Err, Some, None, MatchBool, subst, not, ◌||◌}
use Rattle.std.proofs.lemmas.Slice.Eq.{bytes_eq-Decides}
use Rattle.std.proofs.lemmas.List.Elements.{filter-append}
use Rattle.jup_hub.specs.Prelude.{StarFault, Call, StarReply, Leave, BoardStar, is_no_memory, lacks_memory, HubEvent, Tally, View, HubFault, Star, Spent, Desk}
use Rattle.jup_star.specs.Stars.{reply_of, star_after, asks_memory, is_refused, Answers}
use Rattle.jup_hub.specs.Histories.{star_through, IsLegal, calls_by, BeginsWith, BeginsWithAll, AllTallied, IsNew, AllApart, longest, entry, at_turn, with_call, having_called, Meets, Called, ComesToAsk, told, is_out_of_memory, is_among, calls_of_others, calls_in}
use Rattle.jup_hub.specs.Turns.{AllOwned, SeatState, desk_after, whole, star_now}
use Rattle.jup_hub.specs.Passes.{Made}

-- A history with one more call, and lists of histories and of tallies.

-- two numbers are one or not
pub same_or_not : (m n : List ℕ) → (m ≡ n) ⊎ (¬ (m ≡ n))
same_or_not m n = go (bytes_eq m n) refl
  where
    go : (b : Bool) → bytes_eq m n ≡ b → (m ≡ n) ⊎ (¬ (m ≡ n))
    go true e = inl ((bytes_eq-Decides m n).0 e)
    go false e = inr (λ same. absurd (true≢false (sym ((bytes_eq-Decides m n).1 same) ∙ e)))

pub same_test : (n : List ℕ) → bytes_eq n n ≡ true
same_test n = (bytes_eq-Decides n n).1 refl

pub other_test : (m n : List ℕ) → ¬ (m ≡ n) → bytes_eq m n ≡ false
other_test m n other = go (bytes_eq m n) refl
  where
    go : (b : Bool) → bytes_eq m n ≡ b → b ≡ false
    go true e = absurd (other ((bytes_eq-Decides m n).0 e))
    go false e = refl

pub star_through-more : (s : BoardStar) (log : List HubEvent) (e : HubEvent) → star_through s (log ++ e ∷ []) ≡ star_after e.call (star_through s log)
star_through-more s [] e = refl
star_through-more s (x ∷ xs) e = star_through-more (star_after x.call s) xs e

pub IsLegal-more : (s : BoardStar) (log : List HubEvent) (e : HubEvent) → IsLegal s log → e.reply ≡ reply_of e.call (star_through s log) → IsLegal s (log ++ e ∷ [])
IsLegal-more s [] e h r = (r, tt)
IsLegal-more s (x ∷ xs) e h r = (h.0, IsLegal-more (star_after x.call s) xs e h.1 r)

pub calls_by-more : (n : List ℕ) (log : List HubEvent) (e : HubEvent) → e.by ≡ n → calls_by n (log ++ e ∷ []) ≡ calls_by n log ++ e ∷ []
calls_by-more n log e is = filter-append (λ x. bytes_eq x.by n) log (e ∷ []) ∙ ap (λ b. calls_by n log ++ cond b (e ∷ []) []) ((bytes_eq-Decides e.by n).1 is)

pub calls_by-other : (n : List ℕ) (log : List HubEvent) (e : HubEvent) → ¬ (e.by ≡ n) → calls_by n (log ++ e ∷ []) ≡ calls_by n log
calls_by-other n log e other =
    filter-append (λ x. bytes_eq x.by n) log (e ∷ []) ∙ (ap (λ b. calls_by n log ++ cond b (e ∷ []) []) (other_test e.by n other) ∙ append-nil (calls_by n log))

pub BeginsWith-more : (log h m : List HubEvent) → BeginsWith log h → BeginsWith (log ++ m) h
BeginsWith-more log h m b = (b.0 ++ m, ap (λ l. l ++ m) b.1 ∙ append_assoc h b.0 m)

pub BeginsWithAll-more : (log : List HubEvent) (hs : List (List HubEvent)) (m : List HubEvent) → BeginsWithAll log hs → BeginsWithAll (log ++ m) hs
BeginsWithAll-more log [] m b = tt
BeginsWithAll-more log (h ∷ hs) m b = (BeginsWith-more log h m b.0, BeginsWithAll-more log hs m b.1)

pub BeginsWithAll-whole : (log : List HubEvent) → BeginsWithAll log (log ∷ [])
BeginsWithAll-whole log = (([], sym (append-nil log)), tt)

pub BeginsWithAll-append : (log : List HubEvent) (hs gs : List (List HubEvent)) → BeginsWithAll log hs → BeginsWithAll log gs → BeginsWithAll log (hs ++ gs)
BeginsWithAll-append log [] gs a b = b
BeginsWithAll-append log (h ∷ hs) gs a b = (a.0, BeginsWithAll-append log hs gs a.1 b)

-- no history is longer than one that begins with it
pub longest-le : (log : List HubEvent) (hs : List (List HubEvent)) → BeginsWithAll log hs → longest hs ≤ length log
longest-le log [] b = omega arith
longest-le log (h ∷ hs) b = omega (arith, longest-le log hs b.1, ap length b.0.1, length-append h b.0.0)

pub longest-append : (hs gs : List (List HubEvent)) → longest (hs ++ gs) ≡ max (longest hs) (longest gs)
longest-append [] gs = omega arith
longest-append (h ∷ hs) gs = omega (arith, longest-append hs gs)

pub AllTallied-append : (log : List HubEvent) (ts us : List Tally) → AllTallied log ts → AllTallied log us → AllTallied log (ts ++ us)
AllTallied-append log [] us a b = b
AllTallied-append log (t ∷ ts) us a b = (a.0, AllTallied-append log ts us a.1 b)

-- a call under a number that none of the tallies has
pub AllTallied-other : (log : List HubEvent) (e : HubEvent) (ts : List Tally) → IsNew e.by ts → AllTallied log ts → AllTallied (log ++ e ∷ []) ts
AllTallied-other log e [] new a = tt
AllTallied-other log e (t ∷ ts) new a = (calls_by-other t.number log e new.0 ∙ a.0, AllTallied-other log e ts new.1 a.1)

pub IsNew-append : (n : List ℕ) (ts us : List Tally) → IsNew n ts → IsNew n us → IsNew n (ts ++ us)
IsNew-append n [] us a b = b
IsNew-append n (t ∷ ts) us a b = (a.0, IsNew-append n ts us a.1 b)

-- a number of another owner is none of these
pub IsNew-owned : (owner : List ℕ → ℕ) (seat : ℕ) (n : List ℕ) (ts : List Tally) → AllOwned owner seat ts → owner n ≢ suc seat → IsNew n ts
IsNew-owned owner seat n [] own other = tt
IsNew-owned owner seat n (t ∷ ts) own other = (λ is. other (ap owner is ∙ own.0), IsNew-owned owner seat n ts own.1 other)

pub AllApart-append : (owner : List ℕ → ℕ) (i j : ℕ) (ts us : List Tally) → ¬ (j ≡ i) → AllOwned owner i ts → AllOwned owner j us → AllApart ts → AllApart us → AllApart (ts ++ us)
AllApart-append owner i j [] us other own own' a b = b
AllApart-append owner i j (t ∷ ts) us other own own' a b = (
  IsNew-append t.number ts us a.0 (IsNew-owned owner j t.number us own' (λ e. let is : suc i ≡ suc j = sym own.0 ∙ e in other (omega arith))),
  AllApart-append owner i j ts us other own.1 own' a.1 b,
)

pub AllOwned-append : (owner : List ℕ → ℕ) (seat : ℕ) (ts us : List Tally) → AllOwned owner seat ts → AllOwned owner seat us → AllOwned owner seat (ts ++ us)
AllOwned-append owner seat [] us a b = b
AllOwned-append owner seat (t ∷ ts) us a b = (a.0, AllOwned-append owner seat ts us a.1 b)

-- another owner function that agrees if the owner is this seat
pub AllOwned-moves : (owner owner' : List ℕ → ℕ) (seat seat' : ℕ) (ts : List Tally) → ((n : List ℕ) → owner n ≡ suc seat → owner' n ≡ suc seat') → AllOwned owner seat ts → AllOwned owner' seat' ts
AllOwned-moves owner owner' seat seat' [] moves own = tt
AllOwned-moves owner owner' seat seat' (t ∷ ts) moves own = (moves t.number own.0, AllOwned-moves owner owner' seat seat' ts moves own.1)

-- What a call of the hub says.

-- the call with its reply follows the history that was met
pub calls : (v : View) (log : List HubEvent) (call : Call) (reply : StarReply) → Meets v log → reply ≡ reply_of call (star_through v.opening log) → Called call reply v (having_called log call reply v)
calls v log call reply m right = let e : HubEvent = entry v.number call reply in record {
  before = log;
  begins = m.begins;
  view = refl;
  meets = record {
    legal = IsLegal-more v.opening log e m.legal right;
    begins = BeginsWithAll-whole (log ++ e ∷ []);
    tallied = (calls_by-more v.number log e refl ∙ ap (λ (l : List HubEvent). l ++ e ∷ []) m.tallied.0, AllTallied-other log e v.kept m.apart.0 m.tallied.1);
    apart = m.apart;
  };
}

-- the pass once the turn is given up with no call
pub idle_again : (v : View) (log : List HubEvent) (m m' : SeatState) → v.turn ≡ None → m ≡ (at_turn (Some log) v, (0, None) ∷ []) → m' ≡ (at_turn None m.0, []) → m'.0 ≡ v
idle_again v log m m' none_is took gave = ap (λ (x : SeatState). x.0) gave ∙ (ap (λ (x : SeatState). at_turn None x.0) took ∙ (λ i. at_turn (sym none_is i) v))

-- and with one
pub called_again : (v : View) (log : List HubEvent) (call : Call) (reply : StarReply) (m m' : SeatState) → v.turn ≡ None → m ≡ (at_turn (Some log) v, (0, None) ∷ [])
    → m' ≡ (at_turn None (having_called (whole m.0) call reply m.0), []) → m'.0 ≡ having_called log call reply v
called_again v log call reply m m' none_is took settled =
    ap (λ (x : SeatState). x.0) settled ∙ (ap (λ (x : SeatState). at_turn None (having_called (whole x.0) call reply x.0)) took ∙ (λ i. at_turn (sym none_is i) (having_called log call reply v)))

-- an answer is a call, unless it is that an allocation failed
pub makes : {A : Type 0} (reply : Result A StarFault → StarReply) (call : Call) (v w : View) (r : Result A StarFault) → lacks_memory r ≡ false → Called call (reply r) v w → Made reply call v w (told r)
makes reply call v w (Ok x) has h = h
makes reply call v w (Err e) has h = subst (λ b. MatchBool b ((w ≡ v) × ComesToAsk call v) (Called call (reply (Err e)) v w)) (sym has) h

-- an allocation that failed is none
pub makes_none : {A : Type 0} (reply : Result A StarFault → StarReply) (call : Call) (v w : View) (r : Result A StarFault) → lacks_memory r ≡ true → (w ≡ v) × ComesToAsk call v → Made reply call v w (told r)
makes_none reply call v w (Ok x) lacks h = absurd (true≢false (sym lacks))
makes_none reply call v w (Err e) lacks h = subst (λ b. MatchBool b ((w ≡ v) × ComesToAsk call v) (Called call (reply (Err e)) v w)) (sym lacks) h

-- what an answered call did to the star
pub answered : (call : Call) (s t : BoardStar) (r : StarReply) → is_refused r ≡ false → Answers call s t r → (r ≡ reply_of call s) × (t ≡ star_after call s)
answered call s t r not_refused h = subst (λ b. MatchBool b ((t ≡ s) × (asks_memory call s ≡ true)) ((r ≡ reply_of call s) × (t ≡ star_after call s))) not_refused h

-- and if an allocation failed
pub refused : (call : Call) (s t : BoardStar) (r : StarReply) → is_refused r ≡ true → Answers call s t r → (t ≡ s) × (asks_memory call s ≡ true)
refused call s t r is h = subst (λ b. MatchBool b ((t ≡ s) × (asks_memory call s ≡ true)) ((r ≡ reply_of call s) × (t ≡ star_after call s))) is h

-- the desk after one more call
pub desk_again : (v : View) (star : BoardStar) (count : ℕ) (call : Call) (reply : StarReply) (m : SeatState) (cs : List (ℕ × Option Desk)) → m ≡ (at_turn (Some (with_call (whole v) v call reply)) (having_called (whole v) call reply v), cs)
    → star ≡ star_after call (star_now v) → count ≡ length (whole v) → record { star = star; count = count + 1 } ≡ desk_after m.0.opening (whole m.0)
desk_again v star count call reply m cs decided star_is count_is =
    let log = whole v in
    let e : HubEvent = entry v.number call reply in
    let s : star ≡ star_through v.opening (log ++ e ∷ []) = star_is ∙ sym (star_through-more v.opening log e) in
    let n : count + 1 ≡ length (log ++ e ∷ []) = omega (arith, length-append log (e ∷ [])) in
    let same : record { star = star; count = count + 1 } ≡ desk_after v.opening (log ++ e ∷ []) = (λ i. record { star = s i; count = n i }) in
    same ∙ sym (ap (λ (x : SeatState). desk_after x.0.opening (whole x.0)) decided)

-- a call that never asks for memory never lacks it
pub never_lacks : {A : Type 0} (reply : Result A StarFault → StarReply) (call : Call) (v w : View) (r : Result A HubFault) → ((s : BoardStar) → asks_memory call s ≡ false) → Made reply call v w r → is_out_of_memory r ≡ false
never_lacks reply call v w (Ok x) never made = refl
never_lacks reply call v w (Err Spent) never made = refl
never_lacks reply call v w (Err (Star e)) never made = go (is_no_memory e) made
  where
    go : (b : Bool) → MatchBool b ((w ≡ v) × ComesToAsk call v) (Called call (reply (Err e)) v w) → b ≡ false
    go true h = absurd (true≢false (sym h.1.2 ∙ never (star_through v.opening h.1.0)))
    go false h = refl

-- as leaving
pub leaving_asks_nothing : (site : ℕ) (s : BoardStar) → asks_memory (Leave site) s ≡ false
unfolding asks_memory
leaving_asks_nothing site s = refl

-- A history as long as some tallies together has no other calls.

count_in : List Tally → List HubEvent → ℕ
count_in [] log = 0
count_in (t ∷ ts) log = length (calls_by t.number log) + count_in ts log

-- a new number is not among the tallies
not_among : (n : List ℕ) (ts : List Tally) → IsNew n ts → is_among n ts ≡ false
not_among n [] new = refl
not_among n (t ∷ ts) new = go (bytes_eq n t.number) refl (not_among n ts new.1)
  where
    go : (b : Bool) → bytes_eq n t.number ≡ b → is_among n ts ≡ false → (bytes_eq n t.number || is_among n ts) ≡ false
    go true e rest = absurd (new.0 ((bytes_eq-Decides n t.number).0 e))
    go false e rest = ap (λ b. b || is_among n ts) e ∙ rest

abbrev one_if : Bool → ℕ
one_if b = cond b 1 0

counts_one : (e : HubEvent) (log : List HubEvent) (n : List ℕ) → length (calls_by n (e ∷ log)) ≡ one_if (bytes_eq e.by n) + length (calls_by n log)
counts_one e log n = go (bytes_eq e.by n) refl
  where
    go : (b : Bool) → bytes_eq e.by n ≡ b → length (cond (bytes_eq e.by n) (e ∷ calls_by n log) (calls_by n log)) ≡ one_if (bytes_eq e.by n) + length (calls_by n log)
    go true is = ap (λ b. length (cond b (e ∷ calls_by n log) (calls_by n log))) is ∙ (let one : suc (length (calls_by n log)) ≡ 1 + length (calls_by n log) = omega arith in one ∙ sym (ap (λ b. one_if b + length (calls_by n log)) is))
    go false is = ap (λ b. length (cond b (e ∷ calls_by n log) (calls_by n log))) is ∙ (let one : length (calls_by n log) ≡ 0 + length (calls_by n log) = omega arith in one ∙ sym (ap (λ b. one_if b + length (calls_by n log)) is))

-- one more entry counts once if its number is among the tallies
counts_more : (ts : List Tally) (e : HubEvent) (log : List HubEvent) → AllApart ts → count_in ts (e ∷ log) ≡ one_if (is_among e.by ts) + count_in ts log
unfolding count_in
counts_more [] e log apart = omega arith
counts_more (t ∷ ts) e log apart = go (bytes_eq e.by t.number) refl (counts_more ts e log apart.1)
  where
    go : (b : Bool) → bytes_eq e.by t.number ≡ b → count_in ts (e ∷ log) ≡ one_if (is_among e.by ts) + count_in ts log → length (calls_by t.number (e ∷ log)) + count_in ts (e ∷ log) ≡ one_if (bytes_eq e.by t.number || is_among e.by ts) + (length (calls_by t.number log) + count_in ts log)
    go true is rest = let same : e.by ≡ t.number = (bytes_eq-Decides e.by t.number).0 is in
        let none : one_if (is_among e.by ts) ≡ 0 = ap one_if (not_among e.by ts (subst (λ n. IsNew n ts) (sym same) apart.0)) in
        let here : one_if (bytes_eq e.by t.number) ≡ 1 = ap one_if is in
        let both : one_if (bytes_eq e.by t.number || is_among e.by ts) ≡ 1 = ap (λ b. one_if (b || is_among e.by ts)) is in
        omega (arith, counts_one e log t.number)
    go false is rest = let here : one_if (bytes_eq e.by t.number) ≡ 0 = ap one_if is in
        let both : one_if (bytes_eq e.by t.number || is_among e.by ts) ≡ one_if (is_among e.by ts) = ap (λ b. one_if (b || is_among e.by ts)) is in
        omega (arith, counts_one e log t.number)

none_in : (ts : List Tally) → count_in ts [] ≡ 0
unfolding count_in
none_in [] = refl
none_in (t ∷ ts) = omega (arith, none_in ts)

counts : (ts : List Tally) (log : List HubEvent) → AllApart ts → length log ≡ count_in ts log + length (calls_of_others ts log)
counts ts [] apart = omega (arith, none_in ts)
counts ts (e ∷ log) apart = go (is_among e.by ts) refl (counts ts log apart)
  where
    go : (b : Bool) → is_among e.by ts ≡ b → length log ≡ count_in ts log + length (calls_of_others ts log) → suc (length log) ≡ count_in ts (e ∷ log) + length (calls_of_others ts (e ∷ log))
    go true is rest = let one : one_if (is_among e.by ts) ≡ 1 = ap one_if is in
        let same : length (calls_of_others ts (e ∷ log)) ≡ length (calls_of_others ts log) = ap (λ b. length (cond (not b) (e ∷ calls_of_others ts log) (calls_of_others ts log))) is in
        omega (arith, counts_more ts e log apart)
    go false is rest = let one : one_if (is_among e.by ts) ≡ 0 = ap one_if is in
        let same : length (calls_of_others ts (e ∷ log)) ≡ suc (length (calls_of_others ts log)) = ap (λ b. length (cond (not b) (e ∷ calls_of_others ts log) (calls_of_others ts log))) is in
        omega (arith, counts_more ts e log apart)

count_in-tallied : (ts : List Tally) (log : List HubEvent) → AllTallied log ts → count_in ts log ≡ calls_in ts
unfolding count_in
count_in-tallied [] log a = refl
count_in-tallied (t ∷ ts) log a = omega (arith, ap length a.0, count_in-tallied ts log a.1)

-- the entries of a history are those of its tallies, and the others
pub length-tallied : (ts : List Tally) (log : List HubEvent) → AllApart ts → AllTallied log ts → length log ≡ calls_in ts + length (calls_of_others ts log)
length-tallied ts log apart tallied = omega (arith, counts ts log apart, count_in-tallied ts log tallied)

-- so if it is no longer than the tallies, it has no others
pub no_others : (ts : List Tally) (log : List HubEvent) → AllApart ts → AllTallied log ts → length log ≡ calls_in ts → calls_of_others ts log ≡ []
no_others ts log apart tallied long = none (calls_of_others ts log) (omega (arith, length-tallied ts log apart tallied))
  where
    none : (l : List HubEvent) → length l ≡ 0 → l ≡ []
    none [] e = refl
    none (x ∷ xs) e = absurd (omega arith)
