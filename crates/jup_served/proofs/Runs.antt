-- The run of a site that a session serves.
use Rattle.std.proofs.Common.{◌≡◌, ℕ, ◌≤◌, Bool, true, false, List, [], ◌∷◌, ◌++◌, refl, sym, ap, ◌∙◌, arith, nat_le, ◌&&◌, ◌⊎◌, inl, inr, ◌<◌, Ok, IsTrue, subst, append_assoc, bytes_eq, map, Err, append-nil}
use Rattle.std.proofs.lemmas.Bool.{leb-false, cond-true}
use Rattle.jup_window.specs.declared.kinds.WidgetOp.TheVariants as widget
use Rattle.jup_window.specs.Widgets.{relabels_no_text}
use Rattle.jup_window.specs.Boards as board
use Rattle.jup_window.specs.Widgets as one
use Rattle.jup_served.specs.Prelude.{Joined, HubEvent, ClientState, Bye, Gone}
use Rattle.jup_served.specs.Prelude as served
use Rattle.jup_star.specs.Sites.{edit_reply, site_edited, deliver_reply, site_delivered}
use Rattle.jup_wire.specs.declared.line.Line.TheVariants as line
use Rattle.jup_wire.specs.Kinds.{IsBody}
use Rattle.jup_layout.specs.Drafts.{widget_lines, window_lines, board_lines}
use Rattle.jup_hub.specs.Histories.{entry, star_through, IsLegal, calls_by, AllTallied, is_among, tally, tallies}
use Rattle.jup_honest.specs.Sites as honest
use Rattle.jup_honest.proofs.Steps.{CalledStar, called-opened, legal-parts}
use Rattle.jup_honest.proofs.Backlogs.{begins_chain, both_begin, causal_through}
use Rattle.jup_honest.proofs.Runs.{join_gives}
use Rattle.jup_honest.proofs.Relies.{run-history}
use Rattle.jup_socket.specs.Sockets.{IsLast, greeting, messages_down, written_down}
use Rattle.jup_socket.proofs.Sockets.{all_first, up_reliable, down_reliable, edit_step, deliver_step}
use Rattle.jup_session.specs.Sessions.{IsCallFor, IsFetchFor, welcome_lines}
use Rattle.jup_served.specs.Sessions.{Ended, ServesSite, answer_of, writer_of, fetches_for, IsOwnedBy, HasWritten, HasReceived, IsServing, IsServedRun, IsOneOf, IsSessionHub, IsClientStep, IsClientRun}
use Rattle.jup_served.proofs.Calls as calls
use Rattle.jup_served.proofs.Hubs.{IsJoin, early_join, early_fetches, owned}
use Rattle.jup_socket.specs.Prelude.{NoMemory}
use Rattle.jup_wire.specs.Prelude.{WidgetOp}
use Rattle.jup_star.specs.Prelude.{most_operations, Widget, Text, Labels}

-- The lines of a session as bytes.

le_true : (m n : ℕ) → m ≤ n → nat_le m n ≡ true
le_true m n h = go (nat_le m n) refl
  where
    go : (b : Bool) → nat_le m n ≡ b → b ≡ true
    go true e = refl
    go false e = (let above = leb-false m n e in absurd (omega (arith, h, above)))

and_true : (a b : Bool) → a ≡ true → b ≡ true → (a && b) ≡ true
and_true true true p q = refl
and_true true false p q = absurd (cc)
and_true false b p q = absurd (cc)

body_spelled : (w : WidgetOp) → IsBody w → relabels_no_text w ≡ true
body_spelled (widget.Text op) is = is.0
body_spelled (widget.List op) is = refl
body_spelled other is = refl

-- a line that has a spelling is written as that
line_spelled : (l : served.Line) → served.HasSpelling l → served.is_spelled l ≡ true
line_spelled (line.Batch mine heard count) is = and_true (nat_le 1 count) (nat_le count most_operations) (le_true 1 count is.1.1.0) (le_true count most_operations is.1.1.1)
line_spelled (line.Do op) is = body_spelled op.op is.1.1
line_spelled other is = refl

pub lines_spelled : (ls : List served.Line) → served.AllByRecursion served.HasSpelling ls → served.flat_map served.line_bytes ls ≡ served.flat_map served.spelling ls
lines_spelled [] all = refl
lines_spelled (l ∷ ls) all =
    served.flat_map-cons served.line_bytes l ls
    ∙ ap (λ bs. bs ++ served.flat_map served.line_bytes ls) (cond-true (served.is_spelled l) (served.spelling l) [] (line_spelled l all.0))
    ∙ ap (λ bs. served.spelling l ++ bs) (lines_spelled ls all.1)
    ∙ sym (served.flat_map-cons served.spelling l ls)

-- a board without its room has the same lines
bare_widget : (w : ℕ × Widget) → widget_lines (w.0, one.bare w.1) ≡ widget_lines w
bare_widget (wid, Text x) = refl
bare_widget (wid, Labels x) = refl
bare_widget (wid, other) = refl

bare_widgets : (ws : List (ℕ × Widget)) → served.flat_map widget_lines (board.bare_widgets ws) ≡ served.flat_map widget_lines ws
bare_widgets [] = refl
bare_widgets (w ∷ ws) =
    served.flat_map-cons widget_lines (w.0, one.bare w.1) (board.bare_widgets ws)
    ∙ ap (λ ls. ls ++ served.flat_map widget_lines (board.bare_widgets ws)) (bare_widget w)
    ∙ ap (λ ls. widget_lines w ++ ls) (bare_widgets ws) ∙ sym (served.flat_map-cons widget_lines w ws)

pub bare_lines : (b : served.Windows) → board_lines (served.bare b) ≡ board_lines b
bare_lines [] = refl
bare_lines (w ∷ ws) =
    served.flat_map-cons window_lines (w.0, board.bare_widgets w.1) (served.bare ws)
    ∙ ap (λ ls. (line.Window w.0 ∷ ls) ++ board_lines (served.bare ws)) (bare_widgets w.1)
    ∙ ap (λ ls. window_lines w ++ ls) (bare_lines ws) ∙ sym (served.flat_map-cons window_lines w ws)

-- The run of a site that a session serves is honest.

ending_is_last : (e : served.Ending) → IsLast (served.last_line e)
ending_is_last Bye = tt
ending_is_last Gone = tt
ending_is_last (served.Fault n) = tt

-- # Calls

head_of : {A : Type 0} (x y : A) (xs ys : List A) → x ∷ xs ≡ y ∷ ys → x ≡ y
head_of x y xs ys e = cc

take_is : (site : ℕ) (c : served.Call) → calls.IsTakeFor site c → IsCallFor site c
take_is site served.Join h = absurd h
take_is site (served.Take i up) h = h
take_is site (served.Fetch i max) h = absurd h
take_is site (served.Leave i) h = absurd h

fetch_is : (site : ℕ) (c : served.Call) → calls.IsFetchOf site c → IsCallFor site c
fetch_is site served.Join h = absurd h
fetch_is site (served.Take i up) h = absurd h
fetch_is site (served.Fetch i max) h = h
fetch_is site (served.Leave i) h = absurd h

-- no call is a take and a fetch
not_both : (i j : ℕ) (c : served.Call) → calls.IsTakeFor i c → calls.IsFetchOf j c → ⊥
not_both i j served.Join take fetch = take
not_both i j (served.Take k up) take fetch = fetch
not_both i j (served.Fetch k max) take fetch = take
not_both i j (served.Leave k) take fetch = take

takes_no_fetch : (i j : ℕ) (es : List HubEvent) → served.AllByRecursion (λ (e : HubEvent). calls.IsTakeFor j e.call) es → served.AllByRecursion (λ (e : HubEvent). calls.IsFetchOf i e.call → ⊥) es
takes_no_fetch i j [] all = tt
takes_no_fetch i j (e ∷ es) all = ((λ fetch. not_both j i e.call all.0 fetch), takes_no_fetch i j es all.1)

fetches_no_take : (i j : ℕ) (es : List HubEvent) → served.AllByRecursion (λ (e : HubEvent). IsFetchFor j e.call) es → served.AllByRecursion (λ (e : HubEvent). calls.IsTakeFor i e.call → ⊥) es
fetches_no_take i j [] all = tt
fetches_no_take i j (e ∷ es) all = ((λ take. not_both i j e.call take (calls.fetch_of j e.call all.0)), fetches_no_take i j es all.1)

swapped : (Is : served.Call → Type 0) (n m : List ℕ) (es : List HubEvent) → served.AllByRecursion (λ (e : HubEvent). Is e.call → (e.by ≡ n) ⊎ (e.by ≡ m)) es
    → served.AllByRecursion (λ (e : HubEvent). Is e.call → (e.by ≡ m) ⊎ (e.by ≡ n)) es
swapped Is n m [] all = tt
swapped Is n m (e ∷ es) all = ((λ is. elim (all.0 is) [ inl one ↦ inr one | inr two ↦ inl two ]), swapped Is n m es all.1)

-- # The two ends

-- at the last moment too
causal_last : (steps : List honest.Step) (c : honest.Connection) → honest.IsCausalThrough steps c → honest.IsCausal (honest.through steps c)
causal_last [] c causal = causal
causal_last (step ∷ steps) c causal = causal_last steps (honest.after step c) causal.1

module _ (run : honest.SiteRun) (log : List HubEvent) (s : Ended) (is : IsServing run log s) (up : HasWritten run (served.bytes_read s.exact)) (down : HasReceived run (served.bytes_written s.exact)) where
  serves : ServesSite s
  serves = is.serves

  -- the site
  pub site_is : run.answer.site ≡ is.serves.served.site
  site_is = ap (λ (j : Joined). j.site) is.moment.answer ∙ is.serves.served.welcomed.site_is

  -- all that its session took, and all that it fetched
  abbrev all_taken : List (served.Up served.BoardBatch)
  all_taken = honest.takes_of is.serves.served.site (calls.half s is.serves).calls

  abbrev all_fetched : List (served.Down served.BoardBatch)
  all_fetched = honest.fetches_of is.serves.served.site (fetches_for is.serves)

  -- the client said the messages that the session took
  sent_first : honest.Begins ((honest.now run).sent ++ up.more) all_taken
  sent_first =
      let h = calls.half s is.serves in
      let hello = is.serves.served.welcomed.hello in
      let first : served.HasRead hello.bytes (line.Hello ∷ is.serves.served.greeted.waiting) is.serves.served.greeted.progress =
      hello.goes_on [] [] (subst (λ w. served.HasRead [] w is.serves.start.progress) (sym is.serves.fresh.waiting) is.serves.fresh.read) in
      up_reliable (record (honest.now run) { sent = (honest.now run).sent ++ up.more; taken = all_taken }) (record {
        bye = up.bye;
        spelled = up.spelled;
        brought = record {
          read = hello.bytes ++ h.first;
          lines = h.lines;
          waiting = h.waiting;
          progress = h.progress;
          reads = h.goes_on hello.bytes (line.Hello ∷ []) first;
          saids = h.saids;
          held = h.held;
          said = h.said;
          later = h.later;
          takes = h.takes;
        };
        left = h.rest ++ up.left;
        bytes = append_assoc hello.bytes h.first (h.rest ++ up.left)
            ∙ ap (λ bs. hello.bytes ++ bs) (sym (append_assoc h.first h.rest up.left))
            ∙ ap (λ bs. hello.bytes ++ (bs ++ up.left)) (sym h.bytes_are)
            ∙ sym (append_assoc hello.bytes (served.bytes_heard is.serves.served.halves.hears) up.left)
            ∙ ap (λ l. served.bytes_of l ++ up.left) (sym is.serves.is) ∙ up.bytes;
      })

  -- the lines of the session
  all_lines_are : s.exact.lines ≡ written_down run.answer all_fetched (served.last_line s.ending ∷ [])
  all_lines_are =
      is.serves.served.lines_are ∙ ap (λ ls. ls ++ is.serves.served.later) is.serves.served.welcomed.lines_are
      ∙ ap (λ ls. welcome_lines is.serves.served.welcomed.joined ++ ls) is.serves.served.halves.lines_are
      ∙ ap (λ ls. welcome_lines is.serves.served.welcomed.joined ++ (ls ++ served.last_line s.ending ∷ []))
      (calls.fetches_are is.serves.served.site (fetches_for is.serves) is.serves.served.halves.alone)
      ∙ ap (λ ls. greeting is.serves.served.welcomed.joined.site is.serves.served.welcomed.joined.limit ls ++ (messages_down all_fetched ++ served.last_line s.ending ∷ []))
      (sym (bare_lines is.serves.served.welcomed.joined.board))
      ∙ ap (λ (j : Joined). greeting j.site j.limit (board_lines j.board) ++ (messages_down all_fetched ++ served.last_line s.ending ∷ [])) (sym is.moment.answer)

  -- and the site received the first of the messages that were fetched
  pub handed_first : honest.Begins all_fetched (honest.now run).handed
  handed_first =
      let spelled = subst (served.AllByRecursion served.HasSpelling) all_lines_are is.spelled in
      down_reliable run.answer (record (honest.now run) { fetched = all_fetched }) (record {
        last = served.last_line s.ending ∷ [];
        ends = (ending_is_last s.ending, tt);
        spelled = spelled;
        received = down.received;
        left = down.left ++ s.exact.wrote.1;
        bytes = sym (append_assoc down.received.read down.left s.exact.wrote.1) ∙ ap (λ bs. bs ++ s.exact.wrote.1) down.bytes ∙ sym s.exact.wrote.2
            ∙ ap (served.flat_map served.line_bytes) all_lines_are ∙ lines_spelled (written_down run.answer all_fetched (served.last_line s.ending ∷ [])) spelled;
      })

  -- # The history

  legal : IsLegal (honest.opening run) (honest.calls run)
  legal = (legal-parts (honest.opening run) (honest.calls run) is.moment.first.0 (subst (λ es. IsLegal (honest.opening run) es) is.moment.first.1 (subst (λ o. IsLegal o log) is.moment.opened is.moment.meets.legal))).0

  opened : CalledStar run.board (honest.opening run)
  opened = called-opened run.keeps run.board run.limit is.opens is.limited

  parts : IsLegal (honest.opening run) run.before × IsLegal (star_through (honest.opening run) run.before) (entry run.by served.Join (served.JoinedReply (Ok run.answer)) ∷ honest.history run.steps)
  parts = legal-parts (honest.opening run) run.before (entry run.by served.Join (served.JoinedReply (Ok run.answer)) ∷ honest.history run.steps) legal

  -- before the site joined its number was not given
  not_given : (star_through (honest.opening run) run.before).given < run.answer.site
  not_given = (let gives = join_gives (star_through (honest.opening run) run.before) run.answer parts.1.0 in omega (arith, ap (λ (j : Joined). j.site) gives.0))

  -- the calls of the session in the history
  tallied : AllTallied log (tally s.back.number (calls.join s is.serves ∷ (calls.half s is.serves).calls) ∷ tally (writer_of is.serves) (fetches_for is.serves ++ calls.departing s is.serves) ∷ [])
  tallied = subst (λ es. AllTallied log (tally s.back.number es ∷ tally (writer_of is.serves) (fetches_for is.serves ++ calls.departing s is.serves) ∷ [])) (calls.made_is s is.serves is.moment.new)
      (subst (λ ts. AllTallied log (tally s.back.number s.back.made ∷ ts)) (calls.kept_is s is.serves is.moment.new) is.moment.meets.tallied)

  -- under the number of the reading half
  read_first : honest.Begins (calls.join s is.serves ∷ (calls.half s is.serves).calls) (calls_by s.back.number (honest.calls run))
  read_first = (
    calls_by s.back.number is.moment.first.0,
    sym tallied.0 ∙ ap (calls_by s.back.number) is.moment.first.1 ∙ served.filter-append (λ x. bytes_eq x.by s.back.number) (honest.calls run) is.moment.first.0,
  )

  -- and under that of the writing half
  write_first : honest.Begins (fetches_for is.serves) (calls_by (writer_of is.serves) (honest.calls run))
  write_first = is.moment.stays

  -- what the reading half calls is no fetch, and what the writing half calls before the site leaves is no take
  no_fetches : served.AllByRecursion (λ (e : HubEvent). calls.IsFetchOf run.answer.site e.call → ⊥) (calls_by s.back.number (honest.calls run))
  no_fetches = all_first (λ (e : HubEvent). calls.IsFetchOf run.answer.site e.call → ⊥) (calls_by s.back.number (honest.calls run)) read_first.0
      (subst (served.AllByRecursion (λ (e : HubEvent). calls.IsFetchOf run.answer.site e.call → ⊥)) read_first.1
      ((λ fetch. fetch), takes_no_fetch run.answer.site is.serves.served.site (calls.half s is.serves).calls (calls.half s is.serves).alone))

  no_takes : served.AllByRecursion (λ (e : HubEvent). calls.IsTakeFor run.answer.site e.call → ⊥) (calls_by (writer_of is.serves) (honest.calls run))
  no_takes = all_first (λ (e : HubEvent). calls.IsTakeFor run.answer.site e.call → ⊥) (calls_by (writer_of is.serves) (honest.calls run)) write_first.0
      (subst (served.AllByRecursion (λ (e : HubEvent). calls.IsTakeFor run.answer.site e.call → ⊥)) write_first.1
      (fetches_no_take run.answer.site is.serves.served.site (fetches_for is.serves) is.serves.served.halves.alone))

  module _ (owned : IsOwnedBy s run.answer.site (honest.calls run)) where
    of_writer : (e : HubEvent) → is_among e.by s.back.kept ≡ true → e.by ≡ writer_of is.serves
    of_writer e kept =
        elim (calls.among_is e.by (tally (writer_of is.serves) (fetches_for is.serves ++ calls.departing s is.serves)) [] (subst (λ ts. is_among e.by ts ≡ true) (calls.kept_is s is.serves is.moment.new) kept)) [
          | inl written ↦ written
          | inr none ↦ absurd (cc)
        ]

    -- a call for the site is under one of both numbers
    one_of_both : (e : HubEvent) → IsTrue (is_among e.by (tallies s.back)) → (e.by ≡ s.back.number) ⊎ (e.by ≡ writer_of is.serves)
    one_of_both e among =
        elim (calls.among_is e.by (tally s.back.number s.back.made) s.back.kept among) [
          | inl own ↦ inl own
          | inr kept ↦ inr (of_writer e kept)
        ]

    either : (Is : served.Call → Type 0) → ((c : served.Call) → Is c → IsCallFor run.answer.site c) → (es : List HubEvent) → IsOwnedBy s run.answer.site es
        → served.AllByRecursion (λ (e : HubEvent). Is e.call → (e.by ≡ s.back.number) ⊎ (e.by ≡ writer_of is.serves)) es
    either Is asks [] all = tt
    either Is asks (e ∷ es) all = ((λ call. one_of_both e (all.0 (asks e.call call))), either Is asks es all.1)

    -- the takes for the site are the session's
    takes_by : served.AllByRecursion (λ (e : HubEvent). calls.IsTakeFor run.answer.site e.call → e.by ≡ s.back.number) (honest.calls run)
    takes_by = calls.under_one (calls.IsTakeFor run.answer.site) s.back.number (writer_of is.serves) (honest.calls run)
        (either (calls.IsTakeFor run.answer.site) (take_is run.answer.site) (honest.calls run) owned) no_takes

    -- and so are the fetches
    fetches_by : served.AllByRecursion (λ (e : HubEvent). calls.IsFetchOf run.answer.site e.call → e.by ≡ writer_of is.serves) (honest.calls run)
    fetches_by = calls.under_one (calls.IsFetchOf run.answer.site) (writer_of is.serves) s.back.number (honest.calls run)
        (swapped (calls.IsFetchOf run.answer.site) s.back.number (writer_of is.serves) (honest.calls run)
        (either (calls.IsFetchOf run.answer.site) (fetch_is run.answer.site) (honest.calls run) owned)) no_fetches

    -- nothing was taken for the site before it joined
    abbrev since : List HubEvent
    since = entry run.by served.Join (served.JoinedReply (Ok run.answer)) ∷ honest.history run.steps

    abbrev rest : List HubEvent
    rest = calls_by s.back.number since ++ read_first.0

    whole : calls.join s is.serves ∷ (calls.half s is.serves).calls ≡ calls_by s.back.number run.before ++ rest
    whole = read_first.1 ∙ ap (λ es. es ++ read_first.0) (served.filter-append (λ x. bytes_eq x.by s.back.number) run.before since)
        ∙ append_assoc (calls_by s.back.number run.before) (calls_by s.back.number since) read_first.0

    none_before : calls_by s.back.number run.before ≡ []
    none_before = cases (calls_by s.back.number run.before) refl
      where
        cases : (es : List HubEvent) → calls_by s.back.number run.before ≡ es → es ≡ []
        cases [] has = refl
        cases (e ∷ es) has =
            let same : e ≡ calls.join s is.serves = head_of e (calls.join s is.serves) (es ++ rest) (calls.half s is.serves).calls (ap (λ xs. xs ++ rest) (sym has) ∙ sym whole) in
            let here = calls.by_in s.back.number run.before e (subst (calls.IsIn e) (sym has) (inl refl)) in
            let is_join : IsJoin e run.answer.site = subst (λ k. IsJoin k run.answer.site) (sym same)
            (record { answer = answer_of is.serves; call = refl; reply = refl; site = ap (λ (j : Joined). j.site) (sym is.moment.answer) }) in
            let low = early_join run.board run.before (honest.opening run) opened parts.0 e run.answer.site here.0 is_join in
            absurd (omega (arith, low, not_given))

    -- # The lists of the run

    taken_first : honest.Begins all_taken (honest.now run).taken
    taken_first = (
      honest.takes_of run.answer.site read_first.0,
      ap (λ i. honest.takes_of i (calls.half s is.serves).calls) (sym site_is)
          ∙ ap (honest.takes_of run.answer.site) read_first.1
          ∙ calls.takes_both run.answer.site (calls_by s.back.number (honest.calls run)) read_first.0
          ∙ ap (λ us. us ++ honest.takes_of run.answer.site read_first.0)
          (sym (calls.takes_under s.back.number run.answer.site (honest.calls run) takes_by)
          ∙ calls.takes_both run.answer.site run.before (entry run.by served.Join (served.JoinedReply (Ok run.answer)) ∷ honest.history run.steps)
          ∙ ap (λ us. us ++ honest.takes_of run.answer.site (honest.history run.steps))
          (calls.takes_under s.back.number run.answer.site run.before
          (all_first (λ (e : HubEvent). calls.IsTakeFor run.answer.site e.call → e.by ≡ s.back.number) run.before since takes_by) ∙ ap (honest.takes_of run.answer.site) none_before)
          ∙ sym (run-history run).taken),
    )

    pub fetched_first : honest.Begins all_fetched (honest.now run).fetched
    fetched_first = (
      honest.fetches_of run.answer.site write_first.0,
      ap (λ i. honest.fetches_of i (fetches_for is.serves)) (sym site_is)
          ∙ ap (honest.fetches_of run.answer.site) write_first.1
          ∙ calls.fetches_both run.answer.site (calls_by (writer_of is.serves) (honest.calls run)) write_first.0
          ∙ ap (λ ds. ds ++ honest.fetches_of run.answer.site write_first.0)
          (sym (calls.fetches_under (writer_of is.serves) run.answer.site (honest.calls run) fetches_by)
          ∙ calls.fetches_both run.answer.site run.before (entry run.by served.Join (served.JoinedReply (Ok run.answer)) ∷ honest.history run.steps)
          ∙ ap (λ ds. ds ++ honest.fetches_of run.answer.site (honest.history run.steps)) (early_fetches run.board run.answer.site run.before (honest.opening run) opened parts.0 not_given)
          ∙ sym (run-history run).fetched),
    )

    pub taken_is_sent : honest.Begins ((honest.now run).sent ++ up.more) (honest.now run).taken
    taken_is_sent = begins_chain ((honest.now run).sent ++ up.more) all_taken (honest.now run).taken sent_first taken_first

    pub served_honest : honest.IsCausalThrough run.steps (honest.start run) → honest.IsHonest run
    served_honest causal =
        let last = causal_last run.steps (honest.start run) causal in
        record {
          opens = is.opens;
          limited = is.limited;
          legal = legal;
          reliable = causal_through run.steps (honest.start run) causal (record {
            up = both_begin ((honest.now run).sent ++ up.more) (honest.now run).sent (honest.now run).taken (up.more, refl) taken_is_sent last.up;
            down = both_begin all_fetched (honest.now run).fetched (honest.now run).handed fetched_first handed_first last.down;
          });
        }

-- Of a hub that sessions alone call, the run of each site that one of them serves is honest.

-- nobody but its session calls for the site
pub hub_owned : (keeps : Bool) (board : served.Windows) (limit : ℕ) (sessions : List Ended) (log : List HubEvent) → IsSessionHub keeps board limit sessions log → (run : honest.SiteRun) (s : Ended) → IsOneOf s sessions → IsServing run log s
    → IsOwnedBy s run.answer.site (honest.calls run)
hub_owned keeps board limit sessions log hub run s one is =
    subst (λ i. IsOwnedBy s i (honest.calls run)) (ap (λ (j : Joined). j.site) (sym is.moment.answer))
    (all_first (λ e. IsCallFor (answer_of is.serves).site e.call → IsTrue (is_among e.by (tallies s.back))) (honest.calls run) is.moment.first.0
    (subst (IsOwnedBy s (answer_of is.serves).site) is.moment.first.1 (owned keeps board limit sessions log hub s one is.serves)))

pub hub_honest : (keeps : Bool) (board : served.Windows) (limit : ℕ) (sessions : List Ended) (log : List HubEvent) → IsSessionHub keeps board limit sessions log → (run : honest.SiteRun) (s : Ended) → IsOneOf s sessions → IsServedRun run log s
    → honest.IsHonest run
hub_honest keeps board limit sessions log hub run s one is =
    served_honest run log s is.serving is.up is.down (hub_owned keeps board limit sessions log hub run s one is.serving) is.causal

-- What a client of this product shows and says is what the run of its site has.

-- the client shows the site of this, and all that it has said are the messages that this has sent
record Shows (c : honest.Connection) (client : ClientState) (saids : List served.Said) : Type 0 where
  site : client.site ≡ c.site
  said : saids ≡ map (λ up. served.SaysUp up) c.sent

-- in one step
shows_after : (step : honest.Step) (c : honest.Connection) (old new : ClientState) (said first : List served.Said) → Shows c old said → IsClientStep step old new first → Shows (honest.after step c) new (said ++ first)
shows_after (honest.Edit commands) c old new said first shows (answer, answers, says) =
    elim (edit_step commands old new (Ok answer) answers) [
      | inl ended ↦ absurd (let none : Ok answer ≡ Err NoMemory = ended.0 in cc)
      | inr made ↦ record {
        site = made.0 ∙ ap (site_edited commands) shows.site;
        said = ap (λ ss. ss ++ first) shows.said
            ∙ ap (λ ss. map (λ up. served.SaysUp up) c.sent ++ ss) (says ∙ made.1 ∙ ap (λ s. map (λ up. served.SaysUp up) (honest.sent_as_made (edit_reply commands s))) shows.site)
            ∙ sym (served.map-append (λ up. served.SaysUp up) c.sent (honest.sent_as_made (edit_reply commands c.site)));
      }
    ]
shows_after (honest.Deliver down) c old new said first shows (heard, delivers, says) =
    elim (deliver_step down old new (Ok heard) delivers) [
      | inl ended ↦ absurd (let none : Ok heard ≡ Err NoMemory = ended.0 in cc)
      | inr made ↦ record {
        site = made.0 ∙ ap (site_delivered down) shows.site;
        said = ap (λ ss. ss ++ first) shows.said
            ∙ ap (λ ss. map (λ up. served.SaysUp up) c.sent ++ ss) (says ∙ made.1 ∙ ap (λ s. map (λ up. served.SaysUp up) (honest.sent_as_handed (deliver_reply down s))) shows.site)
            ∙ sym (served.map-append (λ up. served.SaysUp up) c.sent (honest.sent_as_handed (deliver_reply down c.site)));
      }
    ]
shows_after (honest.Ping k) c old new said first shows (answer, answers, says, ping) = record {
  site = ap (λ (d : ClientState). d.site) answers.1 ∙ shows.site;
  said = ap (λ ss. ss ++ first) shows.said ∙ ap (λ ss. map (λ up. served.SaysUp up) c.sent ++ ss) ping ∙ sym (served.map-append (λ up. served.SaysUp up) c.sent (served.UpPing k ∷ []));
}
shows_after (honest.Called e) c old new said first shows (same, none) = record {
  site = ap (λ (d : ClientState). d.site) same ∙ shows.site;
  said = ap (λ ss. said ++ ss) none ∙ append-nil said ∙ shows.said;
}

-- in several
shows_through : (steps : List honest.Step) (c : honest.Connection) (old new : ClientState) (said more : List served.Said) → Shows c old said → IsClientRun steps old new more → Shows (honest.through steps c) new (said ++ more)
shows_through [] c old new said more shows (same, none) = record {
  site = ap (λ (d : ClientState). d.site) same ∙ shows.site;
  said = ap (λ ss. said ++ ss) none ∙ append-nil said ∙ shows.said;
}
shows_through (step ∷ steps) c old new said more shows (between, first, later, one, rest, are) =
    let here = shows_after step c old between said first shows one in
    let there = shows_through steps (honest.after step c) between new (said ++ first) later here rest in
    record { site = there.site; said = ap (λ ss. said ++ ss) are ∙ sym (append_assoc said first later) ∙ there.said }

pub client_shows : (run : honest.SiteRun) (old new : ClientState) (saids : List served.Said) → old.site ≡ (honest.start run).site → IsClientRun run.steps old new saids
    → (new.site ≡ (honest.now run).site) × (saids ≡ map (λ up. served.SaysUp up) (honest.now run).sent)
client_shows run old new saids same walk = let all = shows_through run.steps (honest.start run) old new [] saids (record { site = same; said = refl }) walk in (all.site, all.said)
