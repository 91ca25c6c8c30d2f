-- What the calls of the callers say.
use Rattle.std.proofs.Common.{◌≡◌, refl, ◌∙◌, sym, ap, ℕ, ◌+◌, ◌≤◌, Bool, true, false, List, [], ◌∷◌, Option, Some, None, Result, Ok, arith, ◌++◌, Err, IfOk, OnErr, subst}
use Rattle.jup_star.specs.declared.star.Joined.{Joined}
use Rattle.jup_star.specs.declared.calls.Call.TheVariants.{Join}
use Rattle.jup_star.specs.declared.calls.StarReply.TheVariants.{Joined as JoinedReply, Left}
use Rattle.jup_star.specs.declared.site.Made.{Made as MadeEdit}
use Rattle.jup_star.specs.Stars.{is_of, link_of, without, join_fault, joined, left, BoardLink, Answers, reply_of, star_after, bare_joined, joining}
use Rattle.jup_star.specs.Sites.{edit_answer, edited, BoardSite, EditAnswers, is_edit_memory}
use Rattle.jup_gather.specs.Gathering.{Gathers, GathersAll}
use Rattle.jup_hub.specs.Histories.{entry, star_through, IsLegal}
use Rattle.jup_hub.specs.Passes.{Made}
use Rattle.jup_hub.specs.Prelude.{StarFault, Leave, BoardStar, lacks_memory}
use Rattle.jup_gather.specs.Prelude.{Msg, BoardOp, Line}
use Rattle.jup_star.specs.Prelude.{Command, bare, BoardBatch, board_batches}
use Rattle.jup_batch.specs.Prelude.{EditFault}
use Rattle.jup_hub.specs.declared.fault.HubFault.{HubFault}
use Rattle.jup_hub.specs.declared.view.HubEvent.{HubEvent}
use Rattle.jup_hub.specs.declared.view.View.{View}
use Rattle.jup_gather.specs.declared.gathered.Gathered.{Gathered}
use Rattle.jup_gather.specs.declared.gathered.Gathered.TheVariants.{Whole, Plain, Held, Misplaced}

-- What a join that is answered says, and what a departure leaves.

-- what a site gets as it joins is what the star then has
pub joined_as : (s t : BoardStar) (j : Joined) → Answers Join s t (JoinedReply (bare_joined (Ok j))) → (bare j.board ≡ t.board) × (j.site ≡ t.given)
unfolding reply_of star_after
joined_as s t j answers = cases (join_fault s) refl
  where
    cases : (o : Option StarFault) → join_fault s ≡ o → (bare j.board ≡ t.board) × (j.site ≡ t.given)
    cases None e =
        let told = rw e at answers.0 in
        let after : t ≡ joined s = rw e at answers.1 in
        let join : record j { board = bare j.board } ≡ joining s = cc in
        (ap (λ (k : Joined). k.board) join ∙ sym (ap (λ (x : BoardStar). x.board) after), ap (λ (k : Joined). k.site) join ∙ sym (ap (λ (x : BoardStar). x.given) after))
    cases (Some fault) e = let told = rw e at answers.0 in absurd (cc)

-- the number of a site that joins is 1 or more
pub number_from_one : (s : BoardStar) (j : Joined) → JoinedReply (bare_joined (Ok j)) ≡ reply_of Join s → 1 ≤ j.site
unfolding reply_of
number_from_one s j reply = cases (join_fault s) refl
  where
    cases : (o : Option StarFault) → join_fault s ≡ o → 1 ≤ j.site
    cases None e =
        let told = rw e at reply in
        let join : record j { board = bare j.board } ≡ joining s = cc in
        let number : j.site ≡ s.given + 1 = ap (λ (k : Joined). k.site) join in
        omega arith
    cases (Some fault) e = let told = rw e at reply in absurd (cc)

none_without : (i : ℕ) (ls : List BoardLink) → link_of i (without i ls) ≡ None
none_without i [] = refl
none_without i (l ∷ ls) = cases (is_of i l) refl (none_without i ls)
  where
    cases : (b : Bool) → is_of i l ≡ b → link_of i (without i ls) ≡ None → link_of i (without i (l ∷ ls)) ≡ None
    cases true e none = rw e none
    cases false e none = rw e (rw e none)

-- after a departure the site has no link
pub left_none : (i : ℕ) (s t : BoardStar) (r : Result (Unit {0}) StarFault) → lacks_memory r ≡ false → Answers (Leave i) s t (Left r) → link_of i t.links ≡ None
unfolding reply_of star_after
left_none i s t r memory answers = cases (link_of i s.links) refl
  where
    call : (Left r ≡ reply_of (Leave i) s) × (t ≡ star_after (Leave i) s)
    call = rw memory at answers

    cases : (o : Option BoardLink) → link_of i s.links ≡ o → link_of i t.links ≡ None
    cases None e = let after : t ≡ s = rw e at call.1 in ap (λ (x : BoardStar). link_of i x.links) after ∙ e
    cases (Some l) e = let after : t ≡ left i s = rw e at call.1 in ap (λ (x : BoardStar). link_of i x.links) after ∙ none_without i s.links

-- What the reply to a call of a pass says.

-- the last reply of a legal history is that of the star after the calls before it
last_reply : (s : BoardStar) (log : List HubEvent) (e : HubEvent) → IsLegal s (log ++ e ∷ []) → e.reply ≡ reply_of e.call (star_through s log)
last_reply s [] e legal = legal.0
last_reply s (x ∷ xs) e legal = last_reply (star_after x.call s) xs e legal.1

pub joined_number : (v w : View) (r : Result Joined HubFault) → Made (λ x. JoinedReply (bare_joined x)) Join v w r → IfOk r (λ j. 1 ≤ j.site)
joined_number v w (Ok j) called =
    number_from_one (star_through w.opening called.before) j (last_reply w.opening called.before (entry v.number Join (JoinedReply (bare_joined (Ok j)))) called.meets.legal)
joined_number v w (Err e) called = tt

-- What an edit of a site leaves.

-- one that is made is one more
pub made_one_more : (cs : List Command) (s t : BoardSite) (made : MadeEdit) → EditAnswers cs s t (Ok made) → t.made ≡ s.made + 1
made_one_more cs s t made answers = cases (edit_answer board_batches cs s) refl
  where
    cases : (o : Result BoardBatch EditFault) → edit_answer board_batches cs s ≡ o → t.made ≡ s.made + 1
    cases (Ok op) e = let after : t ≡ edited board_batches op s = rw e at answers.1 in ap (λ (x : BoardSite). x.made) after
    cases (Err n) e = let told = rw e at answers.0 in absurd (cc)

-- and one that is refused changes nothing
pub refused_same : (cs : List Command) (s t : BoardSite) (fault : EditFault) → EditAnswers cs s t (Err fault) → t ≡ s
refused_same cs s t fault answers = by_memory (is_edit_memory fault) refl
  where
    by_memory : (b : Bool) → is_edit_memory fault ≡ b → t ≡ s
    by_memory true e = let call = rw e at answers in call.0
    by_memory false e = let call = rw e at answers in cases (edit_answer board_batches cs s) refl
      where
        cases : (o : Result BoardBatch EditFault) → edit_answer board_batches cs s ≡ o → t ≡ s
        cases (Ok op) f = let told = rw (e, f) at answers in absurd (cc)
        cases (Err n) f = let told = rw (e, f) at answers in told.1

pub kept : (cs : List Command) (s t : BoardSite) (r : Result MadeEdit EditFault) → EditAnswers cs s t r → OnErr r (t ≡ s)
kept cs s t (Ok made) answers = tt
kept cs s t (Err fault) answers = refused_same cs s t fault answers

-- What the lines of a message give, one by one.

-- the message that a line ends, if it ends one
abbrev pub message_of : Gathered → Option (Msg (List BoardOp))
message_of (Whole m) = Some m
message_of (Plain line) = None
message_of Held = None
message_of Misplaced = None

-- that of the last line
abbrev pub last_of : Option (Msg (List BoardOp)) → List Gathered → Option (Msg (List BoardOp))
last_of m [] = m
last_of m (g ∷ gs) = last_of (message_of g) gs

-- these lines were gathered, and this is the message of the last
pub record HasSent (lines : List Line) (sent : Option (Msg (List BoardOp))) (held : Option (List Line)) : Type 0 where
  pub answers : List Gathered
  pub gathers : GathersAll (Some []) lines answers held
  pub last : sent ≡ last_of None answers

last_is : (m : Option (Msg (List BoardOp))) (gs : List Gathered) (g : Gathered) → last_of m (gs ++ g ∷ []) ≡ message_of g
last_is m [] g = refl
last_is m (x ∷ xs) g = last_is (message_of x) xs g

gathers_more : (old held new : Option (List Line)) (lines : List Line) (answers : List Gathered) (line : Line) (g : Gathered)
    → GathersAll old lines answers held → Gathers held line g new → GathersAll old (lines ++ line ∷ []) (answers ++ g ∷ []) new
gathers_more old held new [] [] line g all step = (new, (subst (λ (h : Option (List Line)). Gathers h line g new) all step, refl))
gathers_more old held new [] (x ∷ xs) line g all step = absurd all
gathers_more old held new (l ∷ ls) [] line g all step = absurd all
gathers_more old held new (l ∷ ls) (x ∷ xs) line g all step = (all.0, (all.1.0, gathers_more all.0 held new ls xs line g all.1.1 step))

pub none_sent : HasSent [] None (Some [])
none_sent = record { answers = []; gathers = refl; last = refl }

pub one_more_sent : (lines more : List Line) (sent : Option (Msg (List BoardOp))) (held new : Option (List Line)) (line : Line) (g : Gathered)
    → more ≡ lines ++ line ∷ [] → HasSent lines sent held → Gathers held line g new → HasSent more (message_of g) new
one_more_sent lines more sent held new line g is before step =
    subst (λ (ls : List Line). HasSent ls (message_of g) new) (sym is) (record {
      answers = before.answers ++ g ∷ [];
      gathers = gathers_more (Some []) held new lines before.answers line g before.gathers step;
      last = sym (last_is None before.answers g);
    })

-- the lines of a message end with it
pub sent_whole : (m : Msg (List BoardOp)) (held : List Gathered) (answers : List Gathered) (sent : Option (Msg (List BoardOp)))
    → answers ≡ held ++ Whole m ∷ [] → sent ≡ last_of None answers → sent ≡ Some m
sent_whole m held answers sent is last = last ∙ ap (last_of None) is ∙ last_is None held (Whole m)
