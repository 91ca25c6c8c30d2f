use Rattle.std.proofs.Common.{◌≡◌, ℕ, ◌+◌, ◌-◌, ◌<◌, ◌≤◌, inl, inr, Bool, true, false, nat_lt, nat_le, List, [], ◌∷◌, ◌++◌, length, slice_get, refl, sym, ap, ◌∙◌, subst, arith, append-nil, Option, Some, None, Result, Ok, Err, OnOk, OnErr, option_map, if◌then◌else◌}
use Rattle.std.proofs.lemmas.Bool.{ltb-false, leb-false, false_from_ne_true, false≢true}
use Rattle.jup_world.specs.Prelude.{highest_limit, longest_sequence, most_of_two, Side, Client as ClientSide, Server as ServerSide, Name, Item, Items, name_eq, has_name, SeqOp, InsertOp, DeleteOp, RelabelOp, NoOp, Link, Message, Operation, Ack, generated, after_ack, after_count, after_receive, received_operation, link_after, state_after, message, owes, AllMessages, EditFault, TwoEdit, Insert, Delete, TwoEvent}
use Rattle.jup_value.proofs.Items.{name_eq_refl, name_eq_same}
use Rattle.jup_seq.specs.Operations as operations
use Rattle.jup_seq.specs.Names.{InsertsName, held_before}
use Rattle.jup_link.specs.Links as links
use Rattle.jup_link.specs.Laws.InStep.{MessagesApart-from}
use Rattle.jup_link.specs.Laws.Steps.{generated-after_count, generated-after_receive, InStep-opened, InStep-client_edit, InStep-server_edit, InStep-takes_up, InStep-takes_down, InStep-server_answers, InStep-client_answers}
use Rattle.jup_world.specs.declared.two.TwoEvent.TheVariants.{Client, Server, Up, Down}
use Rattle.jup_world.specs.Twos.{texts, texts_lawful, TwoEnd, TwoState, named_from, opened_end, opened_two, two_operation, deletion, insertions, made_by, edited, sent_by, delivered, left_of, sent_back, two_after, HoldsWithin, InsertsUnder, IsTwoEnd, IsTwo}
use Rattle.jup_world.proofs.Known as known_names

-- # Names

-- the name of a site's next insertion is new
pub new_name : (site most : ℕ) (x : Items ℕ) → HoldsWithin site most x → has_name (record { site = site; number = most + 1 }) x.items ≡ false
new_name site most x within =
    false_from_ne_true _ (λ held. let low : most + 1 ≤ most = within (record { site = site; number = most + 1 }) held refl in omega (arith, low))

-- names that an operation inserts, and those that were there, are within a bound
HoldsWithin-after : (site most more : ℕ) (x : Items ℕ) (op : SeqOp ℕ) → operations.IsValid op x → HoldsWithin site most x → most ≤ more
    → ((n : Name) → InsertsName (operations.edit_of op) n → n.site ≡ site → n.number ≤ more) → HoldsWithin site more (operations.after op x)
HoldsWithin-after site most more x op valid within le new n held here =
    elim (held_before x op n valid held) [
      | inl before ↦ (let low : n.number ≤ most = within n before here in omega (arith, low, le))
      | inr inserted ↦ new n inserted here
    ]

-- operations of two sites are apart
apart_sites : (i j : ℕ) → (i ≡ j → ⊥) → (o p : SeqOp ℕ) → InsertsUnder i o → InsertsUnder j p → operations.AreApart p o
apart_sites i j ne (InsertOp q z) (InsertOp p y) under_i under_j =
    false_from_ne_true (name_eq y.name z.name)
    (λ same. ne (sym (under_i z.name (name_eq_refl z.name)) ∙ ap (λ (n : Name). n.site) (sym (name_eq_same y.name z.name same)) ∙ under_j y.name (name_eq_refl y.name)))
apart_sites i j ne (DeleteOp q n) (InsertOp p y) under_i under_j = tt
apart_sites i j ne (RelabelOp q n v) (InsertOp p y) under_i under_j = tt
apart_sites i j ne NoOp (InsertOp p y) under_i under_j = tt
apart_sites i j ne o (DeleteOp p m) under_i under_j = tt
apart_sites i j ne o (RelabelOp p m v) under_i under_j = tt
apart_sites i j ne o NoOp under_i under_j = tt

-- and apart from all messages of the other site
apart_messages : (i j : ℕ) → (i ≡ j → ⊥) → (o : SeqOp ℕ) → InsertsUnder i o → (ms : List (Message (SeqOp ℕ))) → AllMessages (InsertsUnder j) ms → links.MessagesApart texts ms o
apart_messages i j ne o under ms all = MessagesApart-from texts (InsertsUnder j) ms o (λ p under_j. apart_sites i j ne o p under under_j) all

AllMessages-append : (P : SeqOp ℕ → Type 0) (ms ns : List (Message (SeqOp ℕ))) → AllMessages P ms → AllMessages P ns → AllMessages P (ms ++ ns)
AllMessages-append P [] ns all more = more
AllMessages-append P (Ack k ∷ ms) ns all more = AllMessages-append P ms ns all more
AllMessages-append P (Operation mine heard o ∷ ms) ns all more = (all.0, AllMessages-append P ms ns all.1 more)

-- # An end's own edits

-- what is known of the operation of an edit that is not refused
record IsOwn (site : ℕ) (e : TwoEnd) (op : SeqOp ℕ) : Type 0 where
  valid : operations.IsValid op e.text
  under : InsertsUnder site op
  within : (n : Name) → InsertsName (operations.edit_of op) n → n.number ≤ e.inserted + insertions op
  few : e.made < highest_limit
  small : insertions op ≤ 1

abbrev IfOwn : ℕ → TwoEnd → Result (SeqOp ℕ) EditFault → Type 0
IfOwn site e (Err fault) = Unit {0}
IfOwn site e (Ok op) = IsOwn site e op

unless_refused : (site : ℕ) (e : TwoEnd) (b : Bool) (fault : EditFault) (r : Result (SeqOp ℕ) EditFault) → (b ≡ false → IfOwn site e r) → IfOwn site e (if b then Err fault else r)
unless_refused site e true fault r own = tt
unless_refused site e false fault r own = own refl

deletion_own : (site : ℕ) (e : TwoEnd) (place : ℕ) (found : Option (Item ℕ)) → slice_get e.text.items place ≡ found → IfOwn site e (deletion e.made place found)
deletion_own site e place None is = tt
deletion_own site e place (Some item) is =
    unless_refused site e (nat_le highest_limit e.made) _ _ (λ few. record {
      valid = ap (option_map (λ (y : Item ℕ). y.name)) is;
      under = λ n i. absurd i;
      within = λ n i. absurd i;
      few = leb-false highest_limit e.made few;
      small = omega arith;
    })

operation_own : (site : ℕ) (e : TwoEnd) (edit : TwoEdit) → HoldsWithin site e.inserted e.text → IfOwn site e (two_operation site e edit)
operation_own site e (Insert place value) names =
    let n : Name = record { site = site; number = e.inserted + 1 } in
    unless_refused site e (nat_lt (length e.text.items) place) _ _ (λ near.
    unless_refused site e (nat_le longest_sequence (length e.text.items)) _ _ (λ short.
    unless_refused site e (nat_le highest_limit e.made) _ _ (λ few. record {
      valid = (
        ltb-false (length e.text.items) place near,
        new_name site e.inserted e.text names,
        (let low : length e.text.items < longest_sequence = leb-false longest_sequence (length e.text.items) short in omega (arith, low)),
      );
      under = λ m i. ap (λ (k : Name). k.site) (sym (name_eq_same n m i));
      within = λ m i. (let same : m.number ≡ e.inserted + 1 = ap (λ (k : Name). k.number) (sym (name_eq_same n m i)) in omega (arith, same));
      few = leb-false highest_limit e.made few;
      small = omega arith;
    })))
operation_own site e (Delete place) names = deletion_own site e place (slice_get e.text.items place) refl

-- an end keeps what always holds of it through its own edit
made_end : (site : ℕ) (e : TwoEnd) (out : List (Message (SeqOp ℕ))) (op : SeqOp ℕ) → IsTwoEnd site e out → IsOwn site e op
    → IsTwoEnd site (made_by e op) (out ++ message e.link op ∷ [])
made_end site e out op end own = record {
  few = omega (arith, own.few);
  generated_all = omega (arith, end.generated_all, Rattle.std.proofs.lemmas.List.length_push e.link.outgoing op);
  inserted_some = omega (arith, end.inserted_some, own.small);
  names = HoldsWithin-after site e.inserted (e.inserted + insertions op) e.text op own.valid end.names (omega arith) (λ n i here. own.within n i);
  sent_names = AllMessages-append (InsertsUnder site) out (message e.link op ∷ []) end.sent_names (own.under, tt);
}

-- # An end that messages come to

-- what an end sends back has no name, and leaves its count
generated-answered : (b : Bool) (l : Link (SeqOp ℕ)) → generated (if b then after_ack l else l) ≡ generated l
generated-answered true l = refl
generated-answered false l = refl

owed_names : (P : SeqOp ℕ → Type 0) (b : Bool) (n : ℕ) → AllMessages P (if b then Ack n ∷ [] else [])
owed_names P true n = tt
owed_names P false n = tt

-- the messages after the oldest
all_later : (P : SeqOp ℕ → Type 0) (m : Message (SeqOp ℕ)) (ms : List (Message (SeqOp ℕ))) → AllMessages P (m ∷ ms) → AllMessages P ms
all_later P (Ack k) ms all = all
all_later P (Operation mine heard o) ms all = all.1

-- an end keeps what always holds of it through a message of the other site
taken_end : (site other : ℕ) → (other ≡ site → ⊥) → (e : TwoEnd) (out : List (Message (SeqOp ℕ))) (m : Message (SeqOp ℕ)) (ms : List (Message (SeqOp ℕ)))
    → links.AcceptsMessage texts e.link e.text m → AllMessages (InsertsUnder other) (m ∷ ms) → IsTwoEnd site e out
    → IsTwoEnd site (delivered e (m ∷ ms)) (out ++ sent_back e (m ∷ ms))
taken_end site other ne e out (Ack k) ms accepts all end =
    let link = after_count e.link k in
    record {
      few = end.few;
      generated_all = generated-answered (owes link.unanswered) link ∙ generated-after_count texts e.link k accepts ∙ end.generated_all;
      inserted_some = end.inserted_some;
      names = end.names;
      sent_names = AllMessages-append (InsertsUnder site) out _ end.sent_names (owed_names (InsertsUnder site) (owes link.unanswered) link.received);
    }
taken_end site other ne e out (Operation mine heard o) ms accepts all end =
    let link = after_receive texts e.link heard o in
    let op = received_operation texts e.link heard o in
    let under : InsertsUnder other op = known_names.received_names other e.link heard o all.0 in
    record {
      few = end.few;
      generated_all = generated-answered (owes link.unanswered) link ∙ generated-after_receive texts e.link heard o accepts.1 ∙ end.generated_all;
      inserted_some = end.inserted_some;
      names = HoldsWithin-after site e.inserted e.inserted e.text op accepts.2 end.names (omega arith) (λ n i here. absurd (ne (sym (under n i) ∙ here)));
      sent_names = AllMessages-append (InsertsUnder site) out _ end.sent_names (owed_names (InsertsUnder site) (owes link.unanswered) link.received);
    }

-- # Both ends

-- one more edit fits
room_left : (a b : ℕ) → a < highest_limit → b ≤ highest_limit → most_of_two - (a + b) ≡ (most_of_two - (a + 1 + b)) + 1
room_left a b low le = omega arith

client_edited : (s : TwoState) → IsTwo s → (r : Result (SeqOp ℕ) EditFault) → IfOwn 1 s.client r
    → IsTwo (record s { client = edited s.client r; up = s.up ++ sent_by s.client r })
client_edited s two (Err fault) own = subst (λ (up : List (Message (SeqOp ℕ))). IsTwo (record s { up = up })) (sym (append-nil s.up)) two
client_edited s two (Ok op) own =
    let n = most_of_two - (s.client.made + 1 + s.server.made) in
    let few : generated s.client.link < 4294967295 = omega (arith, two.client_end.generated_all, own.few) in
    record {
      in_step =
          InStep-client_edit texts texts_lawful n s.client.text s.server.text s.client.link s.server.link s.up s.down op
          (rw (room_left s.client.made s.server.made own.few two.server_end.few) at two.in_step)
          own.valid (apart_messages 1 2 (λ e. omega (arith, e)) op own.under s.down two.server_end.sent_names) few;
      client_end = made_end 1 s.client s.up op two.client_end own;
      server_end = two.server_end;
    }

server_edited : (s : TwoState) → IsTwo s → (r : Result (SeqOp ℕ) EditFault) → IfOwn 2 s.server r
    → IsTwo (record s { server = edited s.server r; down = s.down ++ sent_by s.server r })
server_edited s two (Err fault) own = subst (λ (down : List (Message (SeqOp ℕ))). IsTwo (record s { down = down })) (sym (append-nil s.down)) two
server_edited s two (Ok op) own =
    let n = most_of_two - (s.client.made + (s.server.made + 1)) in
    let few : generated s.server.link < 4294967295 = omega (arith, two.server_end.generated_all, own.few) in
    let left : most_of_two - (s.client.made + s.server.made) ≡ n + 1 = omega (arith, own.few, two.client_end.few) in
    record {
      in_step =
          InStep-server_edit texts texts_lawful n s.client.text s.server.text s.client.link s.server.link s.up s.down op
          (rw left at two.in_step)
          own.valid (apart_messages 2 1 (λ e. omega (arith, e)) op own.under s.up two.client_end.sent_names) few;
      client_end = two.client_end;
      server_end = made_end 2 s.server s.down op two.server_end own;
    }

moved_up : (client server : TwoEnd) (up down : List (Message (SeqOp ℕ)))
    → IsTwo (record { client = client; server = server; up = up; down = down })
    → IsTwo (two_after (record { client = client; server = server; up = up; down = down }) Up)
moved_up client server [] down two =
    subst (λ (ms : List (Message (SeqOp ℕ))). IsTwo (record { client = client; server = server; up = []; down = ms })) (sym (append-nil down)) two
moved_up client server (m ∷ up) down two =
    let n = most_of_two - (client.made + server.made) in
    let taken = InStep-takes_up texts texts_lawful n client.text server.text client.link server.link m up down two.in_step in
    record {
      in_step =
          InStep-server_answers texts texts_lawful n client.text (state_after texts server.link server.text m) client.link (link_after texts server.link m) up down taken.1;
      client_end = record {
        few = two.client_end.few;
        generated_all = two.client_end.generated_all;
        inserted_some = two.client_end.inserted_some;
        names = two.client_end.names;
        sent_names = all_later (InsertsUnder 1) m up two.client_end.sent_names;
      };
      server_end = taken_end 2 1 (λ e. omega (arith, e)) server down m up taken.0 two.client_end.sent_names two.server_end;
    }

moved_down : (client server : TwoEnd) (up down : List (Message (SeqOp ℕ)))
    → IsTwo (record { client = client; server = server; up = up; down = down })
    → IsTwo (two_after (record { client = client; server = server; up = up; down = down }) Down)
moved_down client server up [] two =
    subst (λ (ms : List (Message (SeqOp ℕ))). IsTwo (record { client = client; server = server; up = ms; down = [] })) (sym (append-nil up)) two
moved_down client server up (m ∷ down) two =
    let n = most_of_two - (client.made + server.made) in
    let taken = InStep-takes_down texts texts_lawful n client.text server.text client.link server.link m up down two.in_step in
    record {
      in_step =
          InStep-client_answers texts texts_lawful n (state_after texts client.link client.text m) server.text (link_after texts client.link m) server.link up down taken.1;
      client_end = taken_end 1 2 (λ e. omega (arith, e)) client up m down taken.0 two.server_end.sent_names two.client_end;
      server_end = record {
        few = two.server_end.few;
        generated_all = two.server_end.generated_all;
        inserted_some = two.server_end.inserted_some;
        names = two.server_end.names;
        sent_names = all_later (InsertsUnder 2) m down two.server_end.sent_names;
      };
    }

-- what holds of both ends holds after each event
pub two_kept : (s : TwoState) (e : TwoEvent) → IsTwo s → IsTwo (two_after s e)
two_kept s (Client edit) two = client_edited s two (two_operation 1 s.client edit) (operation_own 1 s.client edit two.client_end.names)
two_kept s (Server edit) two = server_edited s two (two_operation 2 s.server edit) (operation_own 2 s.server edit two.server_end.names)
two_kept s Up two = moved_up s.client s.server s.up s.down two
two_kept s Down two = moved_down s.client s.server s.up s.down two

-- two new ends over one text
no_name_of : (site : ℕ) → 1 ≤ site → (k : ℕ) (cs : List ℕ) (n : Name) → has_name n (named_from k cs) ≡ true → n.site ≡ site → ⊥
no_name_of site some k [] n held here = false≢true held
no_name_of site some k (c ∷ cs) n held here =
    let other : name_eq (record { site = 0; number = k }) n ≡ false =
    false_from_ne_true _ (λ same. let first : 0 ≡ site = ap (λ (m : Name). m.site) (name_eq_same (record { site = 0; number = k }) n same) ∙ here in omega (arith, first, some)) in
    no_name_of site some (k + 1) cs n (rw other at held) here

opened_kept_end : (site : ℕ) → 1 ≤ site → (side : Side) (start : List ℕ) → IsTwoEnd site (opened_end side start) []
opened_kept_end site some side start = record {
  few = omega arith;
  generated_all = refl;
  inserted_some = omega arith;
  names = λ n held here. absurd (no_name_of site some 1 start n held here);
  sent_names = tt;
}

pub opened_kept : (start : List ℕ) → length start ≤ highest_limit → IsTwo (opened_two start)
opened_kept start short = record {
  in_step =
      InStep-opened texts texts_lawful most_of_two (record { items = named_from 1 start; spare = 0 }) (known_names.AreDistinct-named_from 1 start)
      (let count : length (named_from 1 start) ≡ length start = known_names.length-named_from 1 start in omega (arith, count, short));
  client_end = opened_kept_end 1 (omega arith) ClientSide start;
  server_end = opened_kept_end 2 (omega arith) ServerSide start;
}

-- the messages on their way are accepted
up_accepts : (client server : TwoEnd) (up down : List (Message (SeqOp ℕ)))
    → IsTwo (record { client = client; server = server; up = up; down = down }) → links.AcceptsNext texts server.link server.text up
up_accepts client server [] down two = tt
up_accepts client server (m ∷ up) down two =
    (InStep-takes_up texts texts_lawful (most_of_two - (client.made + server.made)) client.text server.text client.link server.link m up down two.in_step).0

down_accepts : (client server : TwoEnd) (up down : List (Message (SeqOp ℕ)))
    → IsTwo (record { client = client; server = server; up = up; down = down }) → links.AcceptsNext texts client.link client.text down
down_accepts client server up [] two = tt
down_accepts client server up (m ∷ down) two =
    (InStep-takes_down texts texts_lawful (most_of_two - (client.made + server.made)) client.text server.text client.link server.link m up down two.in_step).0

pub next_up_accepted : (s : TwoState) → IsTwo s → links.AcceptsNext texts s.server.link s.server.text s.up
next_up_accepted s two = up_accepts s.client s.server s.up s.down two

pub next_down_accepted : (s : TwoState) → IsTwo s → links.AcceptsNext texts s.client.link s.client.text s.down
next_down_accepted s two = down_accepts s.client s.server s.up s.down two

-- # Calls that answer that an allocation failed, and then leave all as it was

pub client_step : {A E : Type 0} (r : Result A E) (s : TwoState) (edit : TwoEdit) (end : TwoEnd) (up : List (Message (SeqOp ℕ)))
    → OnOk r (end ≡ edited s.client (two_operation 1 s.client edit)) → OnOk r (up ≡ s.up ++ sent_by s.client (two_operation 1 s.client edit))
    → OnErr r (end ≡ s.client) → OnErr r (up ≡ s.up) → IsTwo s → IsTwo (record s { client = end; up = up })
client_step (Ok a) s edit end up end_is up_is same_end same_up two = rw (end_is, up_is) (two_kept s (Client edit) two)
client_step (Err e) s edit end up end_is up_is same_end same_up two = rw (same_end, same_up) two

pub server_step : {A E : Type 0} (r : Result A E) (s : TwoState) (edit : TwoEdit) (end : TwoEnd) (down : List (Message (SeqOp ℕ)))
    → OnOk r (end ≡ edited s.server (two_operation 2 s.server edit)) → OnOk r (down ≡ s.down ++ sent_by s.server (two_operation 2 s.server edit))
    → OnErr r (end ≡ s.server) → OnErr r (down ≡ s.down) → IsTwo s → IsTwo (record s { server = end; down = down })
server_step (Ok a) s edit end down end_is down_is same_end same_down two = rw (end_is, down_is) (two_kept s (Server edit) two)
server_step (Err e) s edit end down end_is down_is same_end same_down two = rw (same_end, same_down) two

pub up_step : {A E : Type 0} (r : Result A E) (s : TwoState) (end : TwoEnd) (up down : List (Message (SeqOp ℕ)))
    → OnOk r (end ≡ delivered s.server s.up) → OnOk r (up ≡ left_of s.up) → OnOk r (down ≡ s.down ++ sent_back s.server s.up)
    → OnErr r (end ≡ s.server) → OnErr r (up ≡ s.up) → OnErr r (down ≡ s.down) → IsTwo s → IsTwo (record s { server = end; up = up; down = down })
up_step (Ok a) s end up down end_is up_is down_is same_end same_up same_down two = rw (end_is, up_is, down_is) (two_kept s Up two)
up_step (Err e) s end up down end_is up_is down_is same_end same_up same_down two = rw (same_end, same_up, same_down) two

pub down_step : {A E : Type 0} (r : Result A E) (s : TwoState) (end : TwoEnd) (down up : List (Message (SeqOp ℕ)))
    → OnOk r (end ≡ delivered s.client s.down) → OnOk r (down ≡ left_of s.down) → OnOk r (up ≡ s.up ++ sent_back s.client s.down)
    → OnErr r (end ≡ s.client) → OnErr r (down ≡ s.down) → OnErr r (up ≡ s.up) → IsTwo s → IsTwo (record s { client = end; down = down; up = up })
down_step (Ok a) s end down up end_is down_is up_is same_end same_down same_up two = rw (end_is, down_is, up_is) (two_kept s Down two)
down_step (Err e) s end down up end_is down_is up_is same_end same_down same_up two = rw (same_end, same_down, same_up) two
