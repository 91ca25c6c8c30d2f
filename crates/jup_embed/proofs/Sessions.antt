-- What each call makes of a session.
use Rattle.std.proofs.Common.{inl, inr, ◌≡◌, ◌≢◌, ◌≤◌, ◌<◌, ℕ, ◌+◌, ◌-◌, arith, ◌∙◌, refl, sym, ap, Bool, true, false, List, [], ◌∷◌, ◌++◌, length, take, drop, get_or, set, length-drop, slice_get, Some, None, if◌then◌else◌, subst, ◌||◌, ◌==◌, Option, Result, Ok, Err, MatchBool, is_ok, eqb-true, ◌⊎◌, IfErr, IsErrAnd, IfOk, OnOk, flat_map}
use Rattle.std.proofs.lemmas.List.{append-nil, drop_more, drop_all, get_or-drop, get_or-map, get_or_default, length-map, take-append-drop}
use Rattle.std.proofs.Math.ListN.{get_or-eq_default}
use Rattle.std.proofs.lemmas.Option.{get_or_from_slice_get, slice_get_within, slice_get_cases}
use Rattle.std.proofs.lemmas.Grind.{take-set_at}
use Rattle.jup_xform.specs.Laws.Grids.{after_all-append}
use Rattle.jup_embed.specs.Prelude.{Item, Command, EditFault, BoardOp, Made, Line, WireFault, line_bytes, Request, NoMemory, Told, Answer, Heard, ClientEnd, ClientState, Wire, end_of_fault, Phase, EmbedFault}
use Rattle.jup_batch.specs.Boards.{board_batches, Windows, after}
use Rattle.jup_star.specs.declared.site.Delivered.{Delivered}
use Rattle.jup_star.specs.declared.undelivered.Undelivered.{Undelivered}
use Rattle.jup_star.specs.Sites.{EditAnswers, edit_reply, site_edited, is_edit_memory, edit_answer as site_answer, BoardSite, made_by, made_result, after_edit, shown_after}
use Rattle.jup_wire.specs.Streams.{Progress}
use Rattle.jup_wire.proofs.Streams.{take_one_more}
use Rattle.jup_gather.specs.Gathering.{down_in, message_given}
use Rattle.jup_client.specs.declared.client.Told.TheVariants.{Synced, Bye as SaidBye}
use Rattle.jup_client.specs.declared.client.Told.TheVariants as told
use Rattle.jup_client.specs.Clients.{saying, IsHeld, ComesTo, AnswersEdit, Answers, edit_answer, telling, Hears, HearsDown, down_heard, heard_answer, Shows}
use Rattle.jup_embed.specs.declared.phase.Phase.TheVariants as phase
use Rattle.jup_embed.specs.Sessions.{held_of, kept, operations_in, operations_said, said_bytes, PhaseHears, Session, HearsLine, HearsLines, EditedIn, MakesEdit, AnsweredIn, IsDone, DoesAsked, Commands, still_synced, KeepsRest, RefusesLine, HearsUpTo, ReadsOn, Ends, board_in, Feeds, LacksUntold, KeepsCopies, HasNoPing, RefusesRequest}
use Rattle.jup_embed.specs.declared.refusals.EmbedFault.TheVariants as fault
use Rattle.jup_embed.specs.Views.{values_of}
use Rattle.jup_client.specs.Prelude.{BoardBatch, UpPing, Down}
use Rattle.jup_batch.specs.Prelude.{boards}
use Rattle.jup_stream.specs.declared.saying.Said.TheVariants.{Up as SaysUp, Bye as SaysBye}
use Rattle.jup_client.specs.declared.asking.Request.TheVariants.{Sync, Quit, Edit, Batch, Show, Bad}
use Rattle.jup_client.specs.declared.ends.ClientEnd.TheVariants.{Fault}

-- Lists, joined.

pub one_line : (line : Line) → flat_map line_bytes (line ∷ []) ≡ line_bytes line
one_line line = append-nil (line_bytes line)

-- nothing behind a list
pub none_more : {A : Type 0} (xs : List A) → xs ≡ xs ++ []
none_more xs = sym (append-nil xs)

pub none_kept : (watched : Bool) → kept watched [] ≡ []
none_kept true = refl
none_kept false = refl

-- what is left from a place on: the element there and the others, or nothing
pub one_left : {A : Type 0} (xs : List A) (k : ℕ) (x : A) → k < length xs → drop k xs ≡ get_or xs k x ∷ drop (k + 1) xs
one_left xs k x below = drop_more xs k x below

pub none_left : {A : Type 0} (xs : List A) (k : ℕ) → length xs ≤ k → drop k xs ≡ []
none_left xs k over = drop_all k xs over

-- while bytes wait, those before them are held
held_some : (bytes : List ℕ) (k : ℕ) → length bytes ≢ 0 → k ≡ held_of bytes k
held_some [] k some = absurd (some refl)
held_some (byte ∷ bytes) k some = refl

pub left_held : (items now : List ℕ) (sent held count : ℕ) → drop sent items ≡ now → sent ≡ held → sent + count ≢ length items → sent ≤ length items → count ≤ length now
    → sent + count ≡ held_of (drop count now) (held + count)
left_held items now sent held count is same more within fits =
    let long : length now ≡ length items - sent = ap length (sym is) ∙ length-drop sent items in
    let some : length (drop count now) ≢ 0 = rw length-drop (omega (arith, long, more, within, fits)) in
    ap (λ n. n + count) same ∙ held_some (drop count now) (held + count) some

-- the character at a place of a text, and past its end
pub value_within : (items : List (Item ℕ)) (place : ℕ) (item : Item ℕ) → slice_get items place ≡ Some item → item.value ≡ get_or (values_of items) place 0
value_within items place item is =
    sym (get_or-map (λ (i : Item ℕ). i.value) items place item 0 (slice_get_within items place item is) ∙ ap (λ (i : Item ℕ). i.value) (get_or_from_slice_get items place item item is))

pub value_past : (items : List (Item ℕ)) (place : ℕ) → slice_get items place ≡ None → 0 ≡ get_or (values_of items) place 0
value_past items place none = elim (slice_get_cases items place).1 [
  | inl found ↦ absurd (let no : None ≡ Some found.0 = sym none ∙ found.2 in cc)
  | inr past ↦ sym (get_or-eq_default (values_of items) 0 (rw length-map past.0))
]

-- one more character of those from a place on, copied
pub copied_value : (items : List (Item ℕ)) (ys : List ℕ) (place k n v : ℕ) → n ≡ k + 1 → k < length ys → place + k < length items → v ≡ get_or (values_of items) (place + k) 0
    → take k ys ≡ take k (drop place (values_of items)) → take n (set ys k v) ≡ take n (drop place (values_of items))
copied_value items ys place k n v next below within is so =
    let all : List ℕ = values_of items in
    let long : place + k < length all = rw length-map within in
    let inside : k < length (drop place all) = rw length-drop (omega (arith, long)) in
    let here : v ≡ get_or (drop place all) k v =
    is ∙ get_or_default all (place + k) 0 v long ∙ sym (get_or-drop place all k v) in
    take-set_at ys k n v next below ∙ ap (λ zs. zs ++ v ∷ []) so ∙ sym (take_one_more (drop place all) k v inside here) ∙ ap (λ m. take m (drop place all)) (sym next)

-- What a call made of each part of a session, and of the session.

pub heard_so : (line : Line) (heard : Heard) (p : Phase) (c d : Session) → PhaseHears line c.phase (Ok heard) p
    → d.progress ≡ c.progress → d.phase ≡ p → d.waiting ≡ c.waiting ++ said_bytes heard.said → d.changes ≡ c.changes ++ kept c.watched (operations_in heard.shown)
    → d.watched ≡ c.watched → d.asked ≡ c.asked → d.synced ≡ c.synced || heard.is_synced → HearsLine line c d
heard_so line heard p c d hears progress phase waiting changes watched asked synced =
    record { heard = heard; left = p; hears = hears; after = λ i. record { progress = progress i; phase = phase i; waiting = waiting i; changes = changes i; watched = watched i; asked = asked i; synced = synced i } }

pub edited_so : (commands : List Command) (made : Made) (p : Phase) (c d : Session) → EditedIn commands c.phase made p
    → d.progress ≡ c.progress → d.phase ≡ p → d.waiting ≡ c.waiting ++ said_bytes (Some (SaysUp made.up)) → d.changes ≡ c.changes ++ kept c.watched (operations_said (Some (SaysUp made.up)))
    → d.watched ≡ c.watched → d.asked ≡ c.asked → d.synced ≡ c.synced → MakesEdit commands c d
edited_so commands made p c d edited progress phase waiting changes watched asked synced =
    record { made = made; left = p; edited = edited; after = λ i. record { progress = progress i; phase = phase i; waiting = waiting i; changes = changes i; watched = watched i; asked = asked i; synced = synced i } }

pub asked_so : (request : Request) (answer : Answer) (told : Told) (p : Phase) (c d : Session) → AnsweredIn request c.phase answer p → told ≡ answer.told
    → d.progress ≡ c.progress → d.phase ≡ p → d.waiting ≡ c.waiting ++ said_bytes answer.said → d.changes ≡ c.changes ++ kept c.watched (operations_said answer.said)
    → d.watched ≡ c.watched → d.asked ≡ c.asked → d.synced ≡ still_synced request c.synced → IsDone request c told d
asked_so request answer told p c d answered same progress phase waiting changes watched asked synced =
    record { answer = answer; left = p; answered = answered; tells = same; after = λ i. record { progress = progress i; phase = phase i; waiting = waiting i; changes = changes i; watched = watched i; asked = asked i; synced = synced i } }

-- the same of a session that is another by an equation
pub heard_from : (line : Line) (heard : Heard) (p : Phase) (a c d : Session) → c ≡ a → PhaseHears line c.phase (Ok heard) p
    → d.progress ≡ c.progress → d.phase ≡ p → d.waiting ≡ c.waiting ++ said_bytes heard.said → d.changes ≡ c.changes ++ kept c.watched (operations_in heard.shown)
    → d.watched ≡ c.watched → d.asked ≡ c.asked → d.synced ≡ c.synced || heard.is_synced → HearsLine line a d
heard_from line heard p a c d same hears progress phase waiting changes watched asked synced =
    subst (λ (s : Session). HearsLine line s d) same (heard_so line heard p c d hears progress phase waiting changes watched asked synced)

pub edited_from : (commands : List Command) (made : Made) (p : Phase) (a c d : Session) → c ≡ a → EditedIn commands c.phase made p
    → d.progress ≡ c.progress → d.phase ≡ p → d.waiting ≡ c.waiting ++ said_bytes (Some (SaysUp made.up)) → d.changes ≡ c.changes ++ kept c.watched (operations_said (Some (SaysUp made.up)))
    → d.watched ≡ c.watched → d.asked ≡ c.asked → d.synced ≡ c.synced → MakesEdit commands a d
edited_from commands made p a c d same edited progress phase waiting changes watched asked synced =
    subst (λ (s : Session). MakesEdit commands s d) same (edited_so commands made p c d edited progress phase waiting changes watched asked synced)

pub asked_from : (request : Request) (answer : Answer) (told : Told) (p : Phase) (a c d : Session) → c ≡ a → AnsweredIn request c.phase answer p → told ≡ answer.told
    → d.progress ≡ c.progress → d.phase ≡ p → d.waiting ≡ c.waiting ++ said_bytes answer.said → d.changes ≡ c.changes ++ kept c.watched (operations_said answer.said)
    → d.watched ≡ c.watched → d.asked ≡ c.asked → d.synced ≡ still_synced request c.synced → IsDone request a told d
asked_from request answer told p a c d same answered tells progress phase waiting changes watched asked synced =
    subst (λ (s : Session). IsDone request s told d) same (asked_so request answer told p c d answered tells progress phase waiting changes watched asked synced)

-- a ping and a goodbye tell what they are
tells_synced : (is_spent : Bool) (pings : ℕ) (answer : Answer) → Ok answer ≡ (if is_spent then Err (Fault 46) else Ok (saying (SaysUp (UpPing (pings + 1))) Synced)) → Synced ≡ answer.told
tells_synced true pings answer is = absurd (cc)
tells_synced false pings answer is =
    let same : saying (SaysUp (UpPing (pings + 1))) Synced ≡ answer = cc in
    ap (λ (a : Answer). a.told) same

pub pinged_so : (told : Told) (c d : Session) → IsDone Sync c told d → IsDone Sync c Synced d
pinged_so told c d h = record { answer = h.answer; left = h.left; answered = h.answered; tells = tells c.phase h.left h.answered; after = h.after }
  where
    tells : (p q : Phase) → AnsweredIn Sync p h.answer q → Synced ≡ h.answer.told
    tells (phase.Open old) (phase.Open new) answered = tells_synced (old.pings == 4294967295) old.pings h.answer answered.0
    tells (phase.Open old) phase.Greeting answered = absurd answered
    tells (phase.Open old) (phase.Opening opening) answered = absurd answered
    tells (phase.Open old) (phase.Over end) answered = absurd answered
    tells phase.Greeting q answered = absurd answered
    tells (phase.Opening opening) q answered = absurd answered
    tells (phase.Over end) q answered = absurd answered

pub left_so : (told : Told) (c d : Session) → IsDone Quit c told d → IsDone Quit c SaidBye d
left_so told c d h = record { answer = h.answer; left = h.left; answered = h.answered; tells = tells c.phase h.left h.answered; after = h.after }
  where
    tells : (p q : Phase) → AnsweredIn Quit p h.answer q → SaidBye ≡ h.answer.told
    tells (phase.Open old) (phase.Open new) answered =
        let same : saying SaysBye SaidBye ≡ h.answer = let is : Ok h.answer ≡ Ok (saying SaysBye SaidBye) = answered.0 in cc in
        ap (λ (a : Answer). a.told) same
    tells (phase.Open old) phase.Greeting answered = absurd answered
    tells (phase.Open old) (phase.Opening opening) answered = absurd answered
    tells (phase.Open old) (phase.Over end) answered = absurd answered
    tells phase.Greeting q answered = absurd answered
    tells (phase.Opening opening) q answered = absurd answered
    tells (phase.Over end) q answered = absurd answered

-- what completes a request was asked in the session that holds no lines of it any more
pub commanded_so : (line : List ℕ) (asked : Option Request) (r : Result (Option Told) EmbedFault) (c m d : Session)
    → ((lines : List (List ℕ)) → IsHeld lines c.asked → ComesTo (lines ++ line ∷ []) asked m.asked) → m ≡ record c { asked = m.asked } → d.asked ≡ m.asked
    → DoesAsked r asked m d → Commands r line c d
commanded_so line asked (Err refused) c m d comes same stays does = does ∙ same ∙ ap (λ a. record c { asked = a }) (sym stays)
commanded_so line asked (Ok told) c m d comes same stays does = (
  asked,
  λ lines held. subst (λ a. ComesTo (lines ++ line ∷ []) asked a) (sym stays) (comes lines held),
  subst (λ (s : Session). DoesAsked (Ok told) asked s d) (same ∙ ap (λ a. record c { asked = a }) (sym stays)) does,
)

hears_behind : (lines : List Line) (line : Line) (a b c : Session) → HearsLines lines a b → HearsLine line b c → HearsLines (lines ++ line ∷ []) a c
hears_behind [] line a b c none one = (c, subst (λ (s : Session). HearsLine line s c) none one, refl)
hears_behind (x ∷ lines) line a b c some one = (some.0, some.1, hears_behind lines line some.0 b c some.2 one)

pub hears_more : (lines : List Line) (n : ℕ) (line : Line) (a b c : Session) → n < length lines → line ≡ get_or lines n line
    → HearsLines (take n lines) a b → HearsLine line b c → HearsLines (take (n + 1) lines) a c
hears_more lines n line a b c below is some one = subst (λ (xs : List Line). HearsLines xs a c) (sym (take_one_more lines n line below is)) (hears_behind (take n lines) line a b c some one)

-- A request that a client refuses leaves it as it was.

refused_edit : (commands : List Command) (c d : ClientState) (end : ClientEnd) → AnswersEdit commands c (Err end) d → d ≡ c
refused_edit commands c d end h = λ i. record { site = same_site h.0 h.1 h.2 i; gather = h.3 i; pings = h.4 i }
  where
    same_site : (outcome : Result Made EditFault) → EditAnswers commands c.site d.site outcome → Err end ≡ edit_answer outcome → d.site ≡ c.site
    same_site (Ok made) edits is = absurd (cc)
    same_site (Err fault) edits is = by_memory (is_edit_memory fault) is edits
      where
        by_memory : (b : Bool) → Err end ≡ (if b then Err NoMemory else Ok (telling (told.Refused fault)))
            → MatchBool b ((d.site ≡ c.site) × (is_ok (site_answer board_batches commands c.site) ≡ true)) ((Err fault ≡ edit_reply commands c.site) × (d.site ≡ site_edited commands c.site))
            → d.site ≡ c.site
        by_memory true is edits = edits.0
        by_memory false is edits = absurd (cc)

unnumbered : (is_spent : Bool) (c d : ClientState) (end : ClientEnd) → Err end ≡ (if is_spent then Err (Fault 46) else Ok (saying (SaysUp (UpPing (c.pings + 1))) told.Synced))
    → d ≡ record c { pings = (if is_spent then c.pings else c.pings + 1) } → d ≡ c
unnumbered true c d end is left = left
unnumbered false c d end is left = absurd (cc)

pub refused_so : (request : Request) (c d : ClientState) (end : ClientEnd) → Answers request c (Err end) d → d ≡ c
refused_so (Edit command) c d end h = refused_edit (command ∷ []) c d end h
refused_so (Batch commands) c d end h = refused_edit commands.items c d end h
refused_so Sync c d end h = unnumbered (c.pings == 4294967295) c d end h.0 h.1
refused_so Show c d end h = h.1
refused_so Quit c d end h = h.1
refused_so Bad c d end h = h.1

-- Why a client refuses a request: since an allocation fails, or since no number is left for a ping.

refused_memory : (commands : List Command) (c d : ClientState) (end : ClientEnd) → AnswersEdit commands c (Err end) d → end ≡ NoMemory
refused_memory commands c d end h = by_outcome h.0 h.2
  where
    by_outcome : (outcome : Result Made EditFault) → Err end ≡ edit_answer outcome → end ≡ NoMemory
    by_outcome (Ok made) is = absurd (cc)
    by_outcome (Err fault) is = by_memory (is_edit_memory fault) is
      where
        by_memory : (b : Bool) → Err end ≡ (if b then Err NoMemory else Ok (telling (told.Refused fault))) → end ≡ NoMemory
        by_memory true is = cc
        by_memory false is = absurd (cc)

no_ping : (c : ClientState) (end : ClientEnd) (b : Bool) → (c.pings == 4294967295) ≡ b
    → Err end ≡ (if b then Err (Fault 46) else Ok (saying (SaysUp (UpPing (c.pings + 1))) told.Synced)) → HasNoPing Sync (phase.Open c) end
no_ping c end true spent is = (refl, eqb-true c.pings 4294967295 spent, cc)
no_ping c end false spent is = absurd (cc)

why_refused : (request : Request) (c d : ClientState) (end : ClientEnd) → Answers request c (Err end) d → (end ≡ NoMemory) ⊎ HasNoPing request (phase.Open c) end
why_refused (Edit command) c d end h = inl (refused_memory (command ∷ []) c d end h)
why_refused (Batch commands) c d end h = inl (refused_memory commands.items c d end h)
why_refused Sync c d end h = inr (no_ping c end (c.pings == 4294967295) refl h.0)
why_refused Show c d end h = absurd (let no : Err end ≡ Ok (telling told.Board) = h.0 in cc)
why_refused Quit c d end h = absurd (let no : Err end ≡ Ok (saying SaysBye told.Bye) = h.0 in cc)
why_refused Bad c d end h = absurd (let no : Err end ≡ Ok (telling told.BadCommand) = h.0 in cc)

pub request_refused : (request : Request) (c d : ClientState) (end : ClientEnd) → Answers request c (Err end) d → (end ≡ NoMemory → ⊥) → RefusesRequest request (phase.Open c) (fault.Over end)
request_refused request c d end h some = elim (why_refused request c d end h) [ inl none ↦ absurd (some none) | inr spent ↦ inr spent ]

-- Lines that were heard up to one that was refused.

-- what a `?` hands on
pub handed_on : {T E : Type 0} (r : Result T E) (end : E) (P : E → Type 0) → IsErrAnd r (λ e. e ≡ end) → P end → IfErr r P
handed_on (Ok done) end P none holds = absurd none
handed_on (Err e) end P same holds = subst P (sym same) holds

-- a line is refused in a session that is another by an equation
pub refuses_from : (line : Line) (end : ClientEnd) (left : Phase) (a c : Session) → c ≡ a → PhaseHears line c.phase (Err end) left → RefusesLine line a end
refuses_from line end left a c same hears = subst (λ (s : Session). RefusesLine line s end) same (inr (left, hears))

-- the line at an index was refused after those before it
pub refused_at : (lines : List Line) (n : ℕ) (line : Line) (a b d : Session) (end : ClientEnd) → n < length lines → line ≡ get_or lines n line
    → HearsLines (take n lines) a b → RefusesLine line b end → KeepsRest b d → HearsUpTo lines a end d
refused_at lines n line a b d end below is heard refused kept = record {
  heard = take n lines;
  rest = line ∷ drop (n + 1) lines;
  parts = sym (take-append-drop n lines) ∙ ap (λ xs. take n lines ++ xs) (drop_more lines n line below ∙ ap (λ x. x ∷ drop (n + 1) lines) (sym is));
  middle = b;
  hears = heard;
  refuses = refused;
  after = kept;
}

-- all lines were heard, and what comes after them has a fault
pub faulty_rest : (lines : List Line) (a d : Session) (fault : WireFault) → HearsLines lines a d → d.progress.fault ≡ Some fault → HearsUpTo lines a (end_of_fault (Wire fault)) d
faulty_rest lines a d fault heard is = record {
  heard = lines;
  rest = [];
  parts = sym (append-nil lines);
  middle = d;
  hears = heard;
  refuses = (fault, is, refl);
  after = refl;
}

ends_over : (bytes : List ℕ) (c m : Session) (end : ClientEnd) → Ends bytes c end m → Ends bytes c end (record m { phase = phase.Over end })
ends_over bytes c m end (inl was) = inl (was.0, ap (λ (s : Session). record s { phase = phase.Over end }) was.1 ∙ ap (λ p. record c { phase = p }) (sym was.0))
ends_over bytes c m end (inr (inl none)) = inr (inl (none.0, ap (λ (s : Session). record s { phase = phase.Over end }) none.1))
ends_over bytes c m end (inr (inr some)) = inr (inr (
  some.0,
  record {
    heard = some.1.heard;
    rest = some.1.rest;
    parts = some.1.parts;
    middle = some.1.middle;
    hears = some.1.hears;
    refuses = some.1.refuses;
    after = ap (λ (s : Session). record s { phase = phase.Over end }) some.1.after;
  },
  some.2,
))

-- the session is over then
pub over_ends : (bytes : List ℕ) (c m d : Session) (end : ClientEnd) → Ends bytes c end m → d ≡ record m { phase = phase.Over end } → Ends bytes c end d
over_ends bytes c m d end ends is = subst (λ (s : Session). Ends bytes c end s) (sym is) (ends_over bytes c m end ends)

-- no other part of a session is another
pub kept_from : (a c d : Session) → c ≡ a → d.progress ≡ c.progress → d.waiting ≡ c.waiting → d.changes ≡ c.changes → d.watched ≡ c.watched → d.asked ≡ c.asked → d.synced ≡ c.synced → KeepsRest a d
kept_from a c d same progress waiting changes watched asked synced = subst (λ (s : Session). KeepsRest s d) same
    (λ i. record { progress = progress i; phase = d.phase; waiting = waiting i; changes = changes i; watched = watched i; asked = asked i; synced = synced i })

-- the lines that were read are heard up to one
pub refused_ends : (bytes : List ℕ) (lines : List Line) (c m d : Session) (end : ClientEnd) → m ≡ record c { progress = m.progress } → ReadsOn bytes lines c.progress m.progress → d.progress ≡ m.progress
    → HearsUpTo lines m end d → Ends bytes c end d
refused_ends bytes lines c m d end read on same heard = inr (inr (
  lines,
  subst (λ (s : Session). HearsUpTo lines s end d) (read ∙ ap (λ p. record c { progress = p }) (sym same)) heard,
  subst (λ (p : Progress). ReadsOn bytes lines c.progress p) (sym same) on,
))

-- the same of a session that is another by an equation
pub read_ends : (bytes : List ℕ) (lines read : List Line) (a c m d : Session) (end : ClientEnd) → c ≡ a → lines ≡ read → m ≡ record c { progress = m.progress }
    → ReadsOn bytes read c.progress m.progress → d.progress ≡ m.progress → HearsUpTo lines m end d → Ends bytes a end d
read_ends bytes lines read a c m d end same is kept on stays heard = subst (λ (s : Session). Ends bytes s end d) same
    (refused_ends bytes lines c m d end kept (subst (λ (xs : List Line). ReadsOn bytes xs c.progress m.progress) (sym is) on) stays heard)

pub faulty_ends : (bytes : List ℕ) (lines read : List Line) (fault : WireFault) (a c m d : Session) (end : ClientEnd) → c ≡ a → lines ≡ read → m ≡ record c { progress = m.progress }
    → ReadsOn bytes read c.progress m.progress → d.progress ≡ m.progress → HearsLines lines m d → m.progress.fault ≡ Some fault → end ≡ end_of_fault (Wire fault) → Ends bytes a end d
faulty_ends bytes lines read fault a c m d end same is kept on stays heard faulty ends = read_ends bytes lines read a c m d end same is kept on stays
    (subst (λ (e : ClientEnd). HearsUpTo lines m e d) (sym ends) (faulty_rest lines m d fault heard (ap (λ (p : Progress). p.fault) stays ∙ faulty)))

pub over_from : (bytes : List ℕ) (a m i d : Session) (end : ClientEnd) → Ends bytes a end m → i ≡ m → d ≡ record i { phase = phase.Over end } → Ends bytes a end d
over_from bytes a m i d end ends same is = over_ends bytes a m d end ends (is ∙ ap (λ (s : Session). record s { phase = phase.Over end }) same)

-- What each call of a session does to a copy of its board.

-- a board that is a copy with these operations is, after more, that copy with all of them
with_more : (copy board new : Windows) (changes ops : List BoardOp) (watched : Bool) → watched ≡ true → Some board ≡ Some (after changes copy) → new ≡ after ops board
    → Some new ≡ Some (after (changes ++ kept watched ops) copy)
with_more copy board new changes ops true watches was is =
    let same : board ≡ after changes copy = cc in
    ap (λ (b : Windows). Some b) (is ∙ ap (after ops) same ∙ sym (after_all-append boards changes ops copy))
with_more copy board new changes ops false watches was is = absurd (let no : false ≡ true = watches in cc)

shown_is_after : (shown : Option BoardBatch) (b : Windows) → shown_after shown b ≡ after (operations_in shown) b
shown_is_after None b = refl
shown_is_after (Some ops) b = refl

-- a line that a client hears makes its board what the operations shown make of it
heard_shows : (line : Line) (c d : ClientState) (heard : Heard) → Hears line c (Ok heard) d → d.site.board ≡ after (operations_in heard.shown) c.site.board
heard_shows line c d heard (inl none) = absurd (let no : Ok heard ≡ Err NoMemory = none.0 in cc)
heard_shows line c d heard (inr h) = by_lines (down_heard (message_given down_in h.0)) h.2
  where
    delivered : (down : Down BoardBatch) (outcome : Result Delivered Undelivered) → Ok heard ≡ heard_answer c.pings down outcome
        → IfOk outcome (λ made. Shows down c.site made.shown d.site) → d.site.board ≡ after (operations_in heard.shown) c.site.board
    delivered down (Ok made) is shows =
        let same : made.shown ≡ heard.shown = cc in
        shows.board ∙ shown_is_after made.shown c.site.board ∙ ap (λ shown. after (operations_in shown) c.site.board) same
    delivered down (Err refusal) is shows = absurd (cc)

    by_lines : (r : Result (Option (Down BoardBatch)) ClientEnd) → HearsDown r c (Ok heard) d → d.site.board ≡ after (operations_in heard.shown) c.site.board
    by_lines (Ok (Some down)) is = delivered down is.0 is.3 is.2
    by_lines (Ok None) is =
        let none : None ≡ heard.shown = cc in
        ap (λ (s : BoardSite). s.board) is.1 ∙ ap (λ shown. after (operations_in shown) c.site.board) none
    by_lines (Err end) is = absurd (let no : Ok heard ≡ Err end = is.0 in cc)

pub line_keeps : (line : Line) (c d : Session) → HearsLine line c d → KeepsCopies c d
line_keeps line c d h copy watched lacks = subst (λ (s : Session). LacksUntold copy s) (sym h.after) (of_phase c.phase h.hears lacks)
  where
    of_phase : (p : Phase) → PhaseHears line p (Ok h.heard) h.left → board_in p ≡ Some (after c.changes copy)
        → board_in h.left ≡ Some (after (c.changes ++ kept c.watched (operations_in h.heard.shown)) copy)
    of_phase phase.Greeting hears was = absurd (cc)
    of_phase (phase.Opening opening) hears was = absurd (cc)
    of_phase (phase.Open old) hears was =
        ap board_in hears.2 ∙ with_more copy old.site.board hears.0.site.board c.changes (operations_in h.heard.shown) c.watched watched was (heard_shows line old hears.0 h.heard hears.1)
    of_phase (phase.Over end) hears was = absurd (cc)

lines_keep : (lines : List Line) (c d : Session) → HearsLines lines c d → KeepsCopies c d
lines_keep [] c d same copy watched lacks = subst (λ (s : Session). LacksUntold copy s) (sym same) lacks
lines_keep (line ∷ lines) c d h copy watched lacks =
    lines_keep lines h.0 d h.2 copy (ap (λ (s : Session). s.watched) h.1.after ∙ watched) (line_keeps line c h.0 h.1 copy watched lacks)

pub feed_keeps : (bytes : List ℕ) (c d : Session) → Feeds bytes c d → KeepsCopies c d
feed_keeps bytes c d h = lines_keep h.0 (record c { progress = d.progress }) d h.1

pub fed_keeps : (bytes : List ℕ) (c d : Session) (r : Result Unit ClientEnd) → OnOk r (Feeds bytes c d) → OnOk r (KeepsCopies c d)
fed_keeps bytes c d (Ok done) h = feed_keeps bytes c d h
fed_keeps bytes c d (Err end) h = tt

-- an edit that a site made
made_shows : (made : Made) (s t : BoardSite) (r : Result BoardBatch EditFault) → Ok made ≡ made_result s r → t ≡ after_edit s r → t.board ≡ after (operations_said (Some (SaysUp made.up))) s.board
made_shows made s t (Ok op) is becomes =
    let same : made_by op s ≡ made = cc in
    ap (λ (u : BoardSite). u.board) becomes ∙ ap (λ (m : Made). after (operations_said (Some (SaysUp m.up))) s.board) same
made_shows made s t (Err fault) is becomes = absurd (cc)

-- one that it refused
refusal_shows : (fault : EditFault) (s t : BoardSite) (r : Result BoardBatch EditFault) → Err fault ≡ made_result s r → t ≡ after_edit s r → t ≡ s
refusal_shows fault s t (Ok op) is becomes = absurd (cc)
refusal_shows fault s t (Err other) is becomes = becomes

pub edit_keeps : (commands : List Command) (c d : Session) → MakesEdit commands c d → KeepsCopies c d
edit_keeps commands c d h copy watched lacks = subst (λ (s : Session). LacksUntold copy s) (sym h.after) (of_phases c.phase h.left h.edited lacks)
  where
    ops : List BoardOp
    ops = operations_said (Some (SaysUp h.made.up))

    of_phases : (p q : Phase) → EditedIn commands p h.made q → board_in p ≡ Some (after c.changes copy) → board_in q ≡ Some (after (c.changes ++ kept c.watched ops) copy)
    of_phases (phase.Open old) (phase.Open new) edited was =
        with_more copy old.site.board new.site.board c.changes ops c.watched watched was
        (made_shows h.made old.site new.site (site_answer board_batches commands old.site) edited.0.0 edited.0.1)
    of_phases (phase.Open old) phase.Greeting edited was = absurd edited
    of_phases (phase.Open old) (phase.Opening opening) edited was = absurd edited
    of_phases (phase.Open old) (phase.Over end) edited was = absurd edited
    of_phases phase.Greeting q edited was = absurd edited
    of_phases (phase.Opening opening) q edited was = absurd edited
    of_phases (phase.Over end) q edited was = absurd edited

pub made_keeps : (commands : List Command) (c d : Session) (r : Result Unit EmbedFault) → OnOk r (MakesEdit commands c d) → OnOk r (KeepsCopies c d)
made_keeps commands c d (Ok done) h = edit_keeps commands c d h
made_keeps commands c d (Err refused) h = tt

-- what a client does for a request makes its board what the operations said make of it
edit_shows : (commands : List Command) (c d : ClientState) (answer : Answer) → AnswersEdit commands c (Ok answer) d → d.site.board ≡ after (operations_said answer.said) c.site.board
edit_shows commands c d answer h = by_outcome h.0 h.1 h.2
  where
    by_outcome : (outcome : Result Made EditFault) → EditAnswers commands c.site d.site outcome → Ok answer ≡ edit_answer outcome → d.site.board ≡ after (operations_said answer.said) c.site.board
    by_outcome (Ok made) edits is =
        let same : saying (SaysUp made.up) (told.Made made.edit) ≡ answer = cc in
        made_shows made c.site d.site (site_answer board_batches commands c.site) edits.0 edits.1 ∙ ap (λ (a : Answer). after (operations_said a.said) c.site.board) same
    by_outcome (Err fault) edits is = refused (is_edit_memory fault) is edits
      where
        refused : (b : Bool) → Ok answer ≡ (if b then Err NoMemory else Ok (telling (told.Refused fault)))
            → MatchBool b ((d.site ≡ c.site) × (is_ok (site_answer board_batches commands c.site) ≡ true)) ((Err fault ≡ edit_reply commands c.site) × (d.site ≡ site_edited commands c.site))
            → d.site.board ≡ after (operations_said answer.said) c.site.board
        refused true is edits = absurd (cc)
        refused false is edits =
            let same : telling (told.Refused fault) ≡ answer = cc in
            ap (λ (s : BoardSite). s.board) (refusal_shows fault c.site d.site (site_answer board_batches commands c.site) edits.0 edits.1)
            ∙ ap (λ (a : Answer). after (operations_said a.said) c.site.board) same

sync_said : (is_spent : Bool) (pings : ℕ) (answer : Answer) → Ok answer ≡ (if is_spent then Err (Fault 46) else Ok (saying (SaysUp (UpPing (pings + 1))) told.Synced)) → operations_said answer.said ≡ []
sync_said true pings answer is = absurd (cc)
sync_said false pings answer is =
    let same : saying (SaysUp (UpPing (pings + 1))) told.Synced ≡ answer = cc in
    ap (λ (a : Answer). operations_said a.said) (sym same)

answer_shows : (request : Request) (c d : ClientState) (answer : Answer) → Answers request c (Ok answer) d → d.site.board ≡ after (operations_said answer.said) c.site.board
answer_shows (Edit command) c d answer h = edit_shows (command ∷ []) c d answer h
answer_shows (Batch commands) c d answer h = edit_shows commands.items c d answer h
answer_shows Sync c d answer h = ap (λ (s : ClientState). s.site.board) h.1 ∙ ap (λ ops. after ops c.site.board) (sym (sync_said (c.pings == 4294967295) c.pings answer h.0))
answer_shows Show c d answer h =
    let same : telling told.Board ≡ answer = cc in
    ap (λ (s : ClientState). s.site.board) h.1 ∙ ap (λ (a : Answer). after (operations_said a.said) c.site.board) same
answer_shows Quit c d answer h =
    let same : saying SaysBye told.Bye ≡ answer = cc in
    ap (λ (s : ClientState). s.site.board) h.1 ∙ ap (λ (a : Answer). after (operations_said a.said) c.site.board) same
answer_shows Bad c d answer h =
    let same : telling told.BadCommand ≡ answer = cc in
    ap (λ (s : ClientState). s.site.board) h.1 ∙ ap (λ (a : Answer). after (operations_said a.said) c.site.board) same

pub request_keeps : (request : Request) (c d : Session) (told : Told) → IsDone request c told d → KeepsCopies c d
request_keeps request c d told h copy watched lacks = subst (λ (s : Session). LacksUntold copy s) (sym h.after) (of_phases c.phase h.left h.answered lacks)
  where
    ops : List BoardOp
    ops = operations_said h.answer.said

    of_phases : (p q : Phase) → AnsweredIn request p h.answer q → board_in p ≡ Some (after c.changes copy) → board_in q ≡ Some (after (c.changes ++ kept c.watched ops) copy)
    of_phases (phase.Open old) (phase.Open new) answered was =
        with_more copy old.site.board new.site.board c.changes ops c.watched watched was (answer_shows request old new h.answer answered)
    of_phases (phase.Open old) phase.Greeting answered was = absurd answered
    of_phases (phase.Open old) (phase.Opening opening) answered was = absurd answered
    of_phases (phase.Open old) (phase.Over end) answered was = absurd answered
    of_phases phase.Greeting q answered was = absurd answered
    of_phases (phase.Opening opening) q answered was = absurd answered
    of_phases (phase.Over end) q answered was = absurd answered

same_keeps : (c d : Session) → d ≡ c → KeepsCopies c d
same_keeps c d same copy watched lacks = subst (λ (s : Session). LacksUntold copy s) (sym same) lacks

does_keep : (r : Result (Option Told) EmbedFault) (asked : Option Request) (c d : Session) → DoesAsked r asked c d → KeepsCopies c d
does_keep (Ok None) None c d same = same_keeps c d same
does_keep (Ok None) (Some request) c d does = absurd does
does_keep (Ok (Some told)) None c d does = absurd does
does_keep (Ok (Some told)) (Some request) c d does = request_keeps request c d told does
does_keep (Err refused) asked c d same = same_keeps c d same

-- which lines of a batch are held is nothing to a copy
pub commands_keep : (r : Result (Option Told) EmbedFault) (line : List ℕ) (c d : Session) → Commands r line c d → KeepsCopies c d
commands_keep (Ok told) line c d h = does_keep (Ok told) h.0 (record c { asked = d.asked }) d h.2
commands_keep (Err refused) line c d same = same_keeps (record c { asked = d.asked }) d same
