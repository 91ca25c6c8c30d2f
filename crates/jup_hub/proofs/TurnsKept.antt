-- Each kind of step keeps the rule of the table.
use Rattle.std.proofs.Common.{◌≡◌, ◌≢◌, ℕ, suc, zero, le_refl, true≢false, ◌+◌, eqb, true, List, [], ◌∷◌, ◌++◌, length, get_or, set, Option, Some, None, ◌⊎◌, sym, refl, ap, ◌∙◌, subst, ⊎_elim, inl, inr, arith, length-set, length-append, get_or-set_other, get_or-set_same, eq-eqb, ne_eqb, cond, bytes_eq}
use mathlib.Core.Option as maybe
use mathlib.Core.Option.{some, none, some-ne-none, some-injective}
use mathlib.Core.Logic.{dite}
use native.Mathlib.Decide.{ℕ_discrete}
use lib.ListN.{get_elem?}
use lib.Seq.{set-get_or}
use prog.Atomic.{either}
use Rattle.atomic_table.specs.Table.{State, step, rest, Act, keeps, takes, gives, stepped, Allows, Splits, Joins, opening}
use Rattle.atomic_table.proofs.Lists.{at_set, set_else}
use Rattle.jup_hub.specs.Prelude.{BoardStar, Call, StarReply, Desk, HubEvent, View}
use Rattle.jup_star.specs.Stars.{reply_of}
use Rattle.jup_hub.specs.Histories.{entry, star_through, IsLegal, tallies, newcomer, spent, after_split, split_from, joined_with, at_turn, having_seen, with_call, having_called, Meets}
use Rattle.jup_hub.specs.Turns.{desk_after, HasTurn, Fits, Kept, SeatState, tried, decided, gave, looked, saw, learned}
use Rattle.jup_hub.proofs.Histories.{same_or_not, same_test, other_test, IsLegal-more, calls_by-more, calls_by-other, BeginsWithAll-more, BeginsWithAll-whole, BeginsWithAll-append, AllTallied-append, AllTallied-other, IsNew-owned, AllApart-append, AllOwned-append, AllOwned-moves}

-- where an element is in a list with one more
at_more : {A : Type 0} (l : List A) (a b : A) (j : ℕ) → get_elem? (l ++ a ∷ []) j ≡ some b → (get_elem? l j ≡ some b) ⊎ ((j ≡ length l) × (a ≡ b))
at_more [] a b zero e = inr (refl, some-injective a b e)
at_more [] a b (suc j) e = absurd (some-ne-none b (sym e))
at_more (x ∷ xs) a b zero e = inl e
at_more (x ∷ xs) a b (suc j) e = ⊎_elim (λ t. inl t) (λ t. inr (ap suc t.0, t.1)) (at_more xs a b j e)

module _ (star : BoardStar) where
  abbrev TableState : Type 0
  TableState = State (Option Desk) View

  abbrev Rule : TableState → Type 0
  Rule = Kept star

  abbrev turn : TableState → ℕ
  turn s = get_or s.words 1 0

  seats_stay : (K : ℕ → View → Type 0) (vs : List View) (id : ℕ) (w : View) → (w.is_live ≡ true → K id w) → ((j : ℕ) (v : View) → j ≢ id → get_elem? vs j ≡ some v → v.is_live ≡ true → K j v)
      → (j : ℕ) (v : View) → get_elem? (set vs id w) j ≡ some v → v.is_live ≡ true → K j v
  seats_stay K vs id w mine others j v e live = ⊎_elim (λ (t : (j ≡ id) × (w ≡ v)). subst (λ (x : ℕ × View). x.1.is_live ≡ true → K x.0 x.1) (λ i. (sym t.0 i, t.1 i)) mine live)
      (λ (t : (j ≢ id) × (get_elem? vs j ≡ some v)). others j v t.0 t.1 live) (at_set vs id j w v e)

  -- a pass that can't have had the turn may fit any turn
  has_none : (log log' : List HubEvent) (owner owner' : List ℕ → ℕ) (n n' holder holder' j : ℕ) → (n ≢ 0 → ¬ (j ≡ holder)) → (t : Option (List HubEvent))
      → HasTurn star log owner n holder j t → HasTurn star log' owner' n' holder' j t
  has_none log log' owner owner' n n' holder holder' j never None h = tt
  has_none log log' owner owner' n n' holder holder' j never (Some whole) h = absurd (never h.0 h.1)

  refits : (log : List HubEvent) (owner : List ℕ → ℕ) (n n' holder holder' j : ℕ) (v : View) → Fits star log owner n holder j v → HasTurn star log owner n' holder' j v.turn → Fits star log owner n' holder' j v
  refits log owner n n' holder holder' j v f h = record { opened = f.opened; has_turn = h; begins = f.begins; tallied = f.tallied; apart = f.apart; owned = f.owned; unborn = f.unborn }

  -- a step after which the history and the owners of the numbers are as before
  restaged : (s : TableState) (r : Rule s) (ws : List ℕ) (hs : List (maybe.Option (Option Desk))) (id : ℕ) (w : View) (holder : ℕ)
      → length ws ≡ 2 → get_or ws 0 0 ≡ get_or s.words 0 0 → (get_or ws 1 0 ≡ 0 → hs ≡ some (Some (desk_after star r.log)) ∷ [])
      → (w.is_live ≡ true → Fits star r.log r.owner (get_or ws 1 0) holder id w)
      → ((j : ℕ) (v : View) → j ≢ id → HasTurn star r.log r.owner (turn s) r.holder j v.turn → HasTurn star r.log r.owner (get_or ws 1 0) holder j v.turn)
      → Rule record { words = ws; homes = hs; views = set s.views id w }
  restaged s r ws hs id w holder wide same rest mine others = record {
    log = r.log;
    owner = r.owner;
    holder = holder;
    wide = wide;
    count = same ∙ r.count;
    legal = r.legal;
    at_rest = rest;
    each_seat = seats_stay (Fits star r.log r.owner (get_or ws 1 0) holder) s.views id w mine
        (λ j v other at live. let f = r.each_seat j v at live in refits r.log r.owner (turn s) (get_or ws 1 0) r.holder holder j v f (others j v other f.has_turn));
    no_calls = r.no_calls;
    no_child = r.no_child;
  }

  -- a step that leaves the words of the table as they are
  unmoved : (s : TableState) (r : Rule s) (i id : ℕ) (cs : List (ℕ × Option Desk)) (w : View) → (w.is_live ≡ true → Fits star r.log r.owner (turn s) r.holder id w) → Rule (stepped s i (get_or s.words i 0) id cs w keeps)
  unmoved s r i id cs w mine = subst (λ (ws : List ℕ). Rule record { words = ws; homes = s.homes; views = set s.views id w }) (sym (set-get_or s.words i 0))
      (restaged s r s.words s.homes id w r.holder r.wide refl r.at_rest mine (λ j v other h. h))

  meets : (s : TableState) (r : Rule s) (j : ℕ) (v : View) → get_elem? s.views j ≡ some v → v.is_live ≡ true → Meets v r.log
  meets s r j v at live = let f = r.each_seat j v at live in record { legal = subst (λ (z : BoardStar). IsLegal z r.log) (sym f.opened) r.legal; begins = f.begins; tallied = f.tallied; apart = f.apart }

  -- a pass that has seen the history of all calls
  fits_whole : (s : TableState) (r : Rule s) (j : ℕ) (v : View) → Fits star r.log r.owner (turn s) r.holder j v → Fits star r.log r.owner (turn s) r.holder j (having_seen r.log v)
  fits_whole s r j v f = record { opened = f.opened; has_turn = f.has_turn; begins = BeginsWithAll-whole r.log; tallied = f.tallied; apart = f.apart; owned = f.owned; unborn = f.unborn }

  -- the table is made
  pub opens : Rule (opening (0 ∷ 0 ∷ []) (Some (record { star = star; count = 0 }) ∷ []) (newcomer star))
  opens = record {
    log = [];
    owner = λ n. cond (bytes_eq n []) 1 0;
    holder = 0;
    wide = refl;
    count = refl;
    legal = tt;
    at_rest = λ _. refl;
    each_seat = first_seat;
    no_calls = λ n _. refl;
    no_child = λ k n _. refl;
  }
    where
      first : Fits star [] (λ n. cond (bytes_eq n []) 1 0) 0 0 0 (newcomer star)
      first = record { opened = refl; has_turn = tt; begins = (([], refl), tt); tallied = (refl, tt); apart = (tt, tt); owned = (refl, tt); unborn = λ k _. refl }

      first_seat : (j : ℕ) (v : View) → get_elem? (newcomer star ∷ []) j ≡ some v → v.is_live ≡ true → Fits star [] (λ n. cond (bytes_eq n []) 1 0) 0 0 j v
      first_seat zero v e live = subst (Fits star [] (λ n. cond (bytes_eq n []) 1 0) 0 0 0) (some-injective (newcomer star) v e) first
      first_seat (suc j) v e live = absurd (some-ne-none v (sym e))

  -- a try for the turn
  pub tries : (slots id : ℕ) (me : SeatState) → me.0.is_live ≡ true → me.0.turn ≡ None → Allows Rule slots id me 1 (λ n. either (eqb n 0) 1 n) (tried (step slots 1 0 1 none) me)
  tries slots id me live free s r _ at _ = let v : View = me.0 in let n : ℕ = turn s in let f = r.each_seat id v at live in let wide = r.wide in dite (ℕ_discrete n 0)
      (λ hit. let w : View = at_turn (Some r.log) v in let act : Act (Option Desk) = takes 0 (Some (desk_after v.opening r.log)) in
      let now : get_or (set s.words 1 1) 1 0 ≡ 1 = get_or-set_same s.words 1 1 0 (omega arith) in
      let same : get_or (set s.words 1 1) 0 0 ≡ get_or s.words 0 0 = get_or-set_other s.words 1 0 1 0 (λ e. omega arith) in (
        w,
        act,
        ap (λ (h : List (maybe.Option (Option Desk))). get_elem? h 0) (r.at_rest hit) ∙ ap (λ (z : BoardStar). some (some (Some (desk_after z r.log)))) (sym f.opened),
        subst (λ b. Rule (stepped s 1 (either b 1 n) id me.1 w act)) (sym (eq-eqb n 0 hit))
            (restaged s r (set s.words 1 1) (set s.homes 0 none) id w id (length-set s.words 1 1 ∙ wide) same (λ e. absurd (omega arith))
            (λ _. record { opened = f.opened; has_turn = ((λ e. omega arith), refl, refl); begins = f.begins; tallied = f.tallied; apart = f.apart; owned = f.owned; unborn = f.unborn })
            (λ j u other h. has_none r.log r.log r.owner r.owner n (get_or (set s.words 1 1) 1 0) r.holder id j (λ nz _. nz hit) u.turn h)),
        ((λ _. (r.log, meets s r id v at live, refl)), (λ miss. absurd (miss hit))),
      ))
      (λ miss. (
        v,
        keeps,
        tt,
        subst (λ b. Rule (stepped s 1 (either b 1 n) id me.1 v keeps)) (sym (ne_eqb n 0 miss)) (unmoved s r 1 id me.1 v (λ _. f)),
        ((λ hit. absurd (miss hit)), (λ _. refl)),
      ))

  -- a look at the count
  pub looks : (slots id : ℕ) (me : SeatState) → me.0.is_live ≡ true → Allows Rule slots id me 0 (λ n. n) (looked (step slots 0 0 0 none) me)
  looks slots id me live s r _ at _ = let v : View = me.0 in let f = r.each_seat id v at live in (
    having_seen r.log v,
    keeps,
    tt,
    unmoved s r 0 id me.1 (having_seen r.log v) (λ _. fits_whole s r id v f),
    (r.log, meets s r id v at live, r.count, refl),
  )

  -- a look by the pass that has the turn
  pub sees : (slots id : ℕ) (me : SeatState) → me.0.is_live ≡ true → Allows Rule slots id me 0 (λ n. n) (saw (step slots 0 0 0 none) me)
  sees slots id me live s r _ at _ = let v : View = me.0 in let f = r.each_seat id v at live in (
    having_seen r.log v,
    keeps,
    tt,
    unmoved s r 0 id me.1 (having_seen r.log v) (λ _. fits_whole s r id v f),
    λ log is. ap (λ (l : List HubEvent). (having_seen l v, me.1)) (sym (subst (HasTurn star r.log r.owner (turn s) r.holder id) is f.has_turn).2),
  )

  -- a look by which nothing is seen
  pub learns : (slots id : ℕ) (me : SeatState) → me.0.is_live ≡ true → Allows Rule slots id me 0 (λ n. n) (learned (step slots 0 0 0 none) me)
  learns slots id me live s r _ at _ = (me.0, keeps, tt, unmoved s r 0 id me.1 me.0 (r.each_seat id me.0 at), (r.log, meets s r id me.0 at live, refl))

  -- the turn is given up
  pub gives_turn : (slots id : ℕ) (me : SeatState) (log : List HubEvent) → slots ≡ 1 → me.0.is_live ≡ true → me.0.turn ≡ Some log → me.1 ≡ (0, Some (desk_after me.0.opening log)) ∷ []
      → Allows Rule slots id me 1 (λ _. 0) (λ _. gave (step slots 1 0 0 none) me 0)
  gives_turn slots id me log one live is hand s r deep at _ = let v : View = me.0 in let f = r.each_seat id v at live in let wide = r.wide in
      let mine = subst (HasTurn star r.log r.owner (turn s) r.holder id) is f.has_turn in
      let w : View = at_turn None v in
      let same : get_or (set s.words 1 0) 0 0 ≡ get_or s.words 0 0 = get_or-set_other s.words 1 0 0 0 (λ e. omega arith) in
      let long : length s.homes ≡ 1 = deep ∙ one in
      let desk : Desk = desk_after v.opening log in
      let put : set s.homes 0 (some (Some desk)) ≡ some (Some (desk_after star r.log)) ∷ [] = set_only s.homes (some (Some desk)) long ∙ (λ i. some (Some (desk_after (f.opened i) (mine.2 i))) ∷ []) in (
        w,
        gives,
        tt,
        subst (λ (cs : List (ℕ × Option Desk)). Rule (stepped s 1 0 id cs w gives)) (sym hand)
            (restaged s r (set s.words 1 0) (set s.homes 0 (some (Some desk))) id w r.holder (length-set s.words 1 0 ∙ wide) same (λ _. put)
            (λ _. record { opened = f.opened; has_turn = tt; begins = f.begins; tallied = f.tallied; apart = f.apart; owned = f.owned; unborn = f.unborn })
            (λ j u other h. has_none r.log r.log r.owner r.owner (turn s) (get_or (set s.words 1 0) 1 0) r.holder r.holder j (λ _ e. other (e ∙ sym mine.1)) u.turn h)),
        ap (λ (cs : List (ℕ × Option Desk)). (w, rest cs)) hand,
      )
    where
      set_only : {A : Type 0} (l : List A) (a : A) → length l ≡ 1 → set l 0 a ≡ a ∷ []
      set_only [] a e = absurd (omega arith)
      set_only (x ∷ []) a e = refl
      set_only (x ∷ y ∷ ys) a e = absurd (omega arith)

  -- the deciding step: the count is stored
  pub decides : (slots id : ℕ) (me : SeatState) (log : List HubEvent) (call : Call) (reply : StarReply) (next : ℕ) → me.0.is_live ≡ true → me.0.turn ≡ Some log → next ≡ length log + 1 → reply ≡ reply_of call (star_through me.0.opening log)
      → Allows Rule slots id me 0 (λ _. next) (λ _. decided call reply (step slots 0 next 0 none) me next)
  decides slots id me log call reply next live is up answered s r _ at _ = let v : View = me.0 in let f = r.each_seat id v at live in let wide = r.wide in
      let mine = subst (HasTurn star r.log r.owner (turn s) r.holder id) is f.has_turn in
      let e : HubEvent = entry v.number call reply in
      let w : View = at_turn (Some (with_call r.log v call reply)) (having_called r.log call reply v) in
      let right : reply ≡ reply_of call (star_through star r.log) = answered ∙ (λ i. reply_of call (star_through (f.opened i) (mine.2 i))) in
      let still : get_or (set s.words 0 next) 1 0 ≡ turn s = get_or-set_other s.words 0 1 next 0 (λ e. omega arith) in
      let now : get_or (set s.words 0 next) 0 0 ≡ next = get_or-set_same s.words 0 next 0 (omega arith) in
      let long : length log ≡ length r.log = ap length mine.2 in
      let held : get_or (set s.words 0 next) 1 0 ≢ 0 = λ z. mine.0 (sym still ∙ z) in (
        w,
        keeps,
        tt,
        record {
          log = r.log ++ e ∷ [];
          owner = r.owner;
          holder = r.holder;
          wide = length-set s.words 0 next ∙ wide;
          count = omega (arith, length-append r.log (e ∷ []));
          legal = IsLegal-more star r.log e r.legal right;
          at_rest = λ z. absurd (held z);
          each_seat = seats_stay (Fits star (r.log ++ e ∷ []) r.owner (get_or (set s.words 0 next) 1 0) r.holder) s.views id w
              (λ _. record {
                opened = f.opened;
                has_turn = (held, mine.1, refl);
                begins = BeginsWithAll-whole (r.log ++ e ∷ []);
                tallied = (calls_by-more v.number r.log e refl ∙ ap (λ (l : List HubEvent). l ++ e ∷ []) f.tallied.0, AllTallied-other r.log e v.kept f.apart.0 f.tallied.1);
                apart = f.apart;
                owned = f.owned;
                unborn = f.unborn;
              })
              (λ j u other there lives. let g = r.each_seat j u there lives in record {
                opened = g.opened;
                has_turn = has_none r.log (r.log ++ e ∷ []) r.owner r.owner (turn s) (get_or (set s.words 0 next) 1 0) r.holder r.holder j (λ _ e. other (e ∙ sym mine.1)) u.turn g.has_turn;
                begins = BeginsWithAll-more r.log u.seen (e ∷ []) g.begins;
                tallied = AllTallied-other r.log e (tallies u) (IsNew-owned r.owner j v.number (tallies u) g.owned (λ is. let same : suc id ≡ suc j = sym f.owned.0 ∙ is in other (omega arith))) g.tallied;
                apart = g.apart;
                owned = g.owned;
                unborn = g.unborn;
              });
          no_calls = λ n none_has. calls_by-other n r.log e (λ is. let owns : r.owner n ≡ suc id = sym (ap r.owner is) ∙ f.owned.0 in omega arith) ∙ r.no_calls n none_has;
          no_child = r.no_child;
        },
        λ whole is'. let other = subst (HasTurn star r.log r.owner (turn s) r.holder id) is' f.has_turn in
            ap (λ (l : List HubEvent). (at_turn (Some (with_call l v call reply)) (having_called l call reply v), me.1)) (sym other.2),
      )

  -- the owners after a seat got the number c
  abbrev given : (List ℕ → ℕ) → List ℕ → ℕ → List ℕ → ℕ
  given owner c seat n = cond (bytes_eq n c) (suc seat) (owner n)

  given-same : (owner : List ℕ → ℕ) (c : List ℕ) (seat : ℕ) → given owner c seat c ≡ suc seat
  given-same owner c seat = ap (λ b. cond b (suc seat) (owner c)) (same_test c)

  given-other : (owner : List ℕ → ℕ) (c : List ℕ) (seat : ℕ) (n : List ℕ) → ¬ (n ≡ c) → given owner c seat n ≡ owner n
  given-other owner c seat n other = ap (λ b. cond b (suc seat) (owner n)) (other_test n c other)

  -- a number that has an owner is not one that has none
  given-owned : (owner : List ℕ → ℕ) (c : List ℕ) (seat : ℕ) (n : List ℕ) (j : ℕ) → owner c ≡ 0 → owner n ≡ suc j → given owner c seat n ≡ suc j
  given-owned owner c seat n j new has = given-other owner c seat n (λ is. let e = ap owner is in omega arith) ∙ has

  given-none : (owner : List ℕ → ℕ) (c : List ℕ) (seat : ℕ) (n : List ℕ) → given owner c seat n ≡ 0 → owner n ≡ 0
  given-none owner c seat n none_has = ⊎_elim (λ (is : n ≡ c). let same = ap (given owner c seat) is in absurd (omega (arith, given-same owner c seat)))
      (λ (other : ¬ (n ≡ c)). sym (given-other owner c seat n other) ∙ none_has) (same_or_not n c)

  head_of : List ℕ → ℕ
  head_of [] = 0
  head_of (x ∷ xs) = x

  tail_of : List ℕ → List ℕ
  tail_of [] = []
  tail_of (x ∷ xs) = xs

  same_head : (x y : ℕ) (xs ys : List ℕ) → x ∷ xs ≡ y ∷ ys → x ≡ y
  unfolding head_of
  same_head x y xs ys e = ap head_of e

  same_tail : (x y : ℕ) (xs ys : List ℕ) → x ∷ xs ≡ y ∷ ys → xs ≡ ys
  unfolding tail_of
  same_tail x y xs ys e = ap tail_of e

  no_cycle : (k : ℕ) (n : List ℕ) → ¬ (k ∷ n ≡ n)
  no_cycle k n e = let same : suc (length n) ≡ length n = ap length e in omega arith

  -- a pass is split from another
  pub splits : (id : ℕ) (v : View) → v.is_live ≡ true → Splits Rule id v (after_split v) (split_from v)
  splits id v live s r at = let f = r.each_seat id v at live in let c : List ℕ = v.splits ∷ v.number in let seat : ℕ = length (set s.views id (after_split v)) in
      let new : r.owner c ≡ 0 = f.unborn v.splits (le_refl v.splits) in let owner : List ℕ → ℕ = given r.owner c seat in
      let fit : ℕ → View → Type 0 = Fits star r.log owner (turn s) r.holder in record {
        log = r.log;
        owner = owner;
        holder = r.holder;
        wide = r.wide;
        count = r.count;
        legal = r.legal;
        at_rest = r.at_rest;
        each_seat = λ j u there lives. ⊎_elim
            (λ there'. seats_stay fit s.views id (after_split v)
            (λ _. record {
              opened = f.opened;
              has_turn = f.has_turn;
              begins = f.begins;
              tallied = f.tallied;
              apart = f.apart;
              owned = AllOwned-moves r.owner owner id id (tallies v) (λ n has. given-owned r.owner c seat n id new has) f.owned;
              unborn = λ k more. given-other r.owner c seat (k ∷ v.number) (λ e. let same = same_head k v.splits v.number v.number e in omega arith) ∙ f.unborn k (omega arith);
            })
            (λ i x other here lives'. let g = r.each_seat i x here lives' in record {
              opened = g.opened;
              has_turn = g.has_turn;
              begins = g.begins;
              tallied = g.tallied;
              apart = g.apart;
              owned = AllOwned-moves r.owner owner i i (tallies x) (λ n has. given-owned r.owner c seat n i new has) g.owned;
              unborn = λ k more. given-other r.owner c seat (k ∷ x.number) (λ e. let same : suc i ≡ suc id = sym g.owned.0 ∙ (ap r.owner (same_tail k v.splits x.number v.number e) ∙ f.owned.0) in other (omega arith)) ∙ g.unborn k more;
            })
            j u there' lives)
            (λ (t : (j ≡ seat) × (split_from v ≡ u)). subst (λ (x : ℕ × View). fit x.0 x.1) (λ i. (sym t.0 i, t.1 i)) record {
              opened = f.opened;
              has_turn = tt;
              begins = f.begins;
              tallied = (r.no_calls c new, tt);
              apart = (tt, tt);
              owned = (given-same r.owner c seat, tt);
              unborn = λ k _. given-other r.owner c seat (k ∷ c) (no_cycle k c) ∙ r.no_child k c new;
            })
            (at_more (set s.views id (after_split v)) (split_from v) u j there);
        no_calls = λ n none_has. r.no_calls n (given-none r.owner c seat n none_has);
        no_child = λ k n none_has. given-other r.owner c seat (k ∷ n) (λ e. let same = ap r.owner (same_tail k v.splits n v.number e) in let none' = given-none r.owner c seat n none_has in let has = f.owned.0 in omega arith) ∙ r.no_child k n (given-none r.owner c seat n none_has);
      }

  -- the owners after the seat `to` took over the numbers of the seat `from`
  abbrev moved : (List ℕ → ℕ) → ℕ → ℕ → List ℕ → ℕ
  moved owner from to n = cond (eqb (owner n) (suc from)) (suc to) (owner n)

  moved-from : (owner : List ℕ → ℕ) (from to : ℕ) (n : List ℕ) → owner n ≡ suc from → moved owner from to n ≡ suc to
  moved-from owner from to n is = ap (λ b. cond b (suc to) (owner n)) (eq-eqb (owner n) (suc from) is)

  moved-other : (owner : List ℕ → ℕ) (from to : ℕ) (n : List ℕ) → owner n ≢ suc from → moved owner from to n ≡ owner n
  moved-other owner from to n other = ap (λ b. cond b (suc to) (owner n)) (ne_eqb (owner n) (suc from) other)

  moved-stays : (owner : List ℕ → ℕ) (from to j : ℕ) (n : List ℕ) → j ≢ from → owner n ≡ suc j → moved owner from to n ≡ suc j
  moved-stays owner from to j n other has = moved-other owner from to n (λ is. other (omega arith)) ∙ has

  moved-none : (owner : List ℕ → ℕ) (from to : ℕ) (n : List ℕ) → owner n ≡ 0 → moved owner from to n ≡ 0
  moved-none owner from to n none_has = moved-other owner from to n (λ is. omega arith) ∙ none_has

  moved-was_none : (owner : List ℕ → ℕ) (from to : ℕ) (n : List ℕ) → moved owner from to n ≡ 0 → owner n ≡ 0
  moved-was_none owner from to n none_has = dite (ℕ_discrete (owner n) (suc from)) (λ is. let now = moved-from owner from to n is in absurd (omega arith)) (λ other. sym (moved-other owner from to n other) ∙ none_has)

  -- a pass takes in another
  pub joins : (id : ℕ) (v : View) (other : ℕ) (w : View) → v.is_live ≡ true → w.is_live ≡ true → Joins Rule id v other w (joined_with v w) spent
  joins id v other w live live' s r at apart there = let f = r.each_seat id v at live in
      let there' : get_elem? s.views other ≡ some w = sym (set_else s.views id other (joined_with v w) apart) ∙ there in
      let g = r.each_seat other w there' live' in let owner : List ℕ → ℕ = moved r.owner other id in
      let fit : ℕ → View → Type 0 = Fits star r.log owner (turn s) r.holder in record {
        log = r.log;
        owner = owner;
        holder = r.holder;
        wide = r.wide;
        count = r.count;
        legal = r.legal;
        at_rest = r.at_rest;
        each_seat = seats_stay fit (set s.views id (joined_with v w)) other spent
            (λ dead. absurd (true≢false (sym dead)))
            (λ j u far at' lives. seats_stay (λ i x. i ≢ other → fit i x) s.views id (joined_with v w)
            (λ _ _. record {
              opened = f.opened;
              has_turn = f.has_turn;
              begins = BeginsWithAll-append r.log v.seen w.seen f.begins g.begins;
              tallied = AllTallied-append r.log (tallies v) (tallies w) f.tallied g.tallied;
              apart = AllApart-append r.owner id other (tallies v) (tallies w) apart f.owned g.owned f.apart g.apart;
              owned = AllOwned-append owner id (tallies v) (tallies w)
                  (AllOwned-moves r.owner owner id id (tallies v) (λ n has. moved-stays r.owner other id id n (λ e. apart (sym e)) has) f.owned)
                  (AllOwned-moves r.owner owner other id (tallies w) (λ n has. moved-from r.owner other id n has) g.owned);
              unborn = λ k more. moved-none r.owner other id (k ∷ v.number) (f.unborn k more);
            })
            (λ i x not_id here lives' not_other. let h = r.each_seat i x here lives' in record {
              opened = h.opened;
              has_turn = h.has_turn;
              begins = h.begins;
              tallied = h.tallied;
              apart = h.apart;
              owned = AllOwned-moves r.owner owner i i (tallies x) (λ n has. moved-stays r.owner other id i n not_other has) h.owned;
              unborn = λ k more. moved-none r.owner other id (k ∷ x.number) (h.unborn k more);
            })
            j u at' lives far);
        no_calls = λ n none_has. r.no_calls n (moved-was_none r.owner other id n none_has);
        no_child = λ k n none_has. moved-none r.owner other id (k ∷ n) (r.no_child k n (moved-was_none r.owner other id n none_has));
      }
