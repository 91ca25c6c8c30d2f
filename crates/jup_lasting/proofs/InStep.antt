-- What a client's link keeps in step with its two ways.
use Rattle.std.proofs.Common.{◌≡◌, ◌≢◌, ℕ, ◌≤◌, Bool, true, false, ◌&&◌, nat_eq, nat_lt, List, [], ◌∷◌, ◌++◌, length, Option, None, Some, refl, sym, ap, ◌∙◌, subst, arith}
use Rattle.std.specs.List.{AllByRecursion}
use Rattle.jup_resume.specs.Texts.{Text}
use Rattle.jup_resume.specs.Keepers.{Keeping, after_put, unsent, reach}
use Rattle.jup_resume.specs.Ways.{Way, Event, Puts, Stores, Writes, Notes, Comes, Saves, Tells, Hears, Begins, Breaks, SenderFails, TakerFails, with_byte, come, with_line_of, write_if, with_count, hear_if, with_place, happens, run, IsAllowed, AreAllowed, IsRun}
use Rattle.jup_resume.specs.Notes.{begins_note}
use Rattle.jup_lasting.specs.Links.{Link, after_asking, with_text, elapsed, cut_of, broken, given_up}
use Rattle.jup_lasting.specs.declared.carriage.Carriage.{Carriage}
use Rattle.jup_lasting.specs.declared.carriage.Carriage.TheVariants.{Cut, Asking, Carried, Last, Over}
use Rattle.jup_lasting.specs.Runs.{Ways, Connection, Silent, Carrier, Stranger, Moment, start, IsOfTaker, IsOfSender, with_carrier}
use Rattle.jup_resume.proofs.WayRuns.{run_on}

-- how a client that asks stands to the ways
abbrev pub AsksBy : Connection → Link → Ways → Type 0
AsksBy Silent c ways = c.down.part ≡ []
AsksBy Carrier c ways = c.down.part ≡ ways.down.part
AsksBy Stranger c ways = Unit {0}

-- how the client's end stands to them
abbrev pub Stands : Carriage → Connection → Link → Ways → Type 0
Stands Cut x c ways = (x ≢ Carrier) × (c.down.part ≡ [])
Stands Asking x c ways = AsksBy x c ways
Stands Carried x c ways = (x ≡ Carrier) × (c.down.part ≡ ways.down.part) × (c.up ≡ ways.up.keeper) × (c.up.is_open ≡ true)
Stands Last x c ways = Unit {0}
Stands Over x c ways = Unit {0}

pub record InStep (m : Moment) : Type 0 where
  pub up : IsRun begins_note m.ways.up
  pub down : IsRun begins_note m.ways.down
  pub said : m.ways.up.put ≡ m.said
  pub told : m.ways.down.handed ≡ m.told
  pub stored : m.ways.up.stored ≡ length m.ways.up.put
  pub dropped : m.link.up.dropped ≡ m.ways.up.keeper.dropped
  pub kept : m.link.up.kept ≡ m.ways.up.keeper.kept
  pub taken : m.link.down.taken ≡ length m.told
  pub confirming : m.link.confirming.taken ≡ m.link.down.taken
  pub few : m.link.down.taken ≤ 4294967295
  pub stands : Stands m.link.carriage m.connection m.link m.ways

pub at_start : InStep start
at_start = record {
  up = record { events = []; allowed = tt; is = refl };
  down = record { events = []; allowed = tt; is = refl };
  said = refl;
  told = refl;
  stored = refl;
  dropped = refl;
  kept = refl;
  taken = refl;
  confirming = refl;
  few = omega arith;
  stands = ((λ e. absurd cc), refl);
}

-- Calls that leave lines and counts as they are.

asks_same : (x : Connection) (l k : Link) (w v : Ways) → k.down.part ≡ l.down.part → v.down.part ≡ w.down.part → AsksBy x l w → AsksBy x k v
asks_same Silent l k w v part same h = part ∙ h
asks_same Carrier l k w v part same h = part ∙ h ∙ sym same
asks_same Stranger l k w v part same h = tt

pub stands_same : (c : Carriage) (x : Connection) (l k : Link) (w v : Ways) → k.down.part ≡ l.down.part → k.up ≡ l.up → v.down.part ≡ w.down.part → v.up.keeper ≡ w.up.keeper
    → Stands c x l w → Stands c x k v
stands_same Cut x l k w v part up same keeper h = (h.0, part ∙ h.1)
stands_same Asking x l k w v part up same keeper h = asks_same x l k w v part same h
stands_same Carried x l k w v part up same keeper h = (h.0, part ∙ h.1 ∙ sym same, up ∙ h.2 ∙ sym keeper, ap (λ (k : Keeping). k.is_open) up ∙ h.3)
stands_same Last x l k w v part up same keeper h = tt
stands_same Over x l k w v part up same keeper h = tt

pub same_ends : (m : Moment) (l : Link) → l.up ≡ m.link.up → l.down ≡ m.link.down → l.carriage ≡ m.link.carriage → l.confirming.taken ≡ m.link.confirming.taken
    → InStep m → InStep (record m { link = l })
same_ends m l up down carriage confirming h = record {
  up = h.up;
  down = h.down;
  said = h.said;
  told = h.told;
  stored = h.stored;
  dropped = ap (λ (k : Keeping). k.dropped) up ∙ h.dropped;
  kept = ap (λ (k : Keeping). k.kept) up ∙ h.kept;
  taken = ap (λ d. d.taken) down ∙ h.taken;
  confirming = confirming ∙ h.confirming ∙ ap (λ d. d.taken) (sym down);
  few = subst (λ d. d.taken ≤ 4294967295) (sym down) h.few;
  stands = subst (λ c. Stands c m.connection l m.ways) (sym carriage)
      (stands_same m.link.carriage m.connection m.link l m.ways m.ways (ap (λ d. d.part) down) up refl refl h.stands);
}

pub waits : (m : Moment) (seconds : ℕ) (c : Carriage) → InStep m → InStep (record m { link = elapsed seconds c m.link })
waits m seconds Cut h = h
waits m seconds Asking h = same_ends m (elapsed seconds Asking m.link) refl refl refl refl h
waits m seconds Carried h = same_ends m (elapsed seconds Carried m.link) refl refl refl refl h
waits m seconds Last h = h
waits m seconds Over h = h

-- Connections.

stands_broken : (c : Carriage) (l : Link) (w : Ways) → l.down.part ≡ [] → Stands (cut_of c) Silent l w
stands_broken Cut l w none = ((λ e. absurd cc), none)
stands_broken Asking l w none = ((λ e. absurd cc), none)
stands_broken Carried l w none = ((λ e. absurd cc), none)
stands_broken Last l w none = tt
stands_broken Over l w none = tt

pub breaks : (m : Moment) → InStep m → InStep (record m { link = broken m.link; connection = Silent })
breaks m h = record {
  up = h.up;
  down = h.down;
  said = h.said;
  told = h.told;
  stored = h.stored;
  dropped = h.dropped;
  kept = h.kept;
  taken = h.taken;
  confirming = h.confirming;
  few = h.few;
  stands = stands_broken m.link.carriage (broken m.link) m.ways refl;
}

pub gives_up : (m : Moment) → InStep m → InStep (record m { link = given_up m.link })
gives_up m h = record {
  up = h.up;
  down = h.down;
  said = h.said;
  told = h.told;
  stored = h.stored;
  dropped = h.dropped;
  kept = h.kept;
  taken = h.taken;
  confirming = h.confirming;
  few = h.few;
  stands = tt;
}

-- What happens elsewhere.

-- the sending end has the same
record SameSender (v w : Way) : Type 0 where
  put : v.put ≡ w.put
  keeper : v.keeper ≡ w.keeper
  stored : v.stored ≡ w.stored

-- the taking end has the same
record SameTaker (v w : Way) : Type 0 where
  part : v.part ≡ w.part
  handed : v.handed ≡ w.handed

byte_leaves : (w : Way) (b : ℕ) (bs : List ℕ) (is_feed : Bool) → SameSender (with_byte begins_note w b bs is_feed) w
byte_leaves w b bs true = record { put = refl; keeper = refl; stored = refl }
byte_leaves w b bs false = record { put = refl; keeper = refl; stored = refl }

come_leaves : (w : Way) (bytes : List ℕ) → SameSender (come begins_note w bytes) w
come_leaves w [] = record { put = refl; keeper = refl; stored = refl }
come_leaves w (b ∷ bs) = byte_leaves w b bs (nat_eq b 10)

taker_leaves : (e : Event) (w : Way) → IsOfTaker e → SameSender (happens begins_note w e) w
taker_leaves (Puts text) w is = absurd is
taker_leaves Stores w is = absurd is
taker_leaves Writes w is = absurd is
taker_leaves (Notes text) w is = absurd is
taker_leaves Comes w is = come_leaves w w.wire
taker_leaves Saves w is = record { put = refl; keeper = refl; stored = refl }
taker_leaves Tells w is = record { put = refl; keeper = refl; stored = refl }
taker_leaves Hears w is = absurd is
taker_leaves Begins w is = absurd is
taker_leaves Breaks w is = absurd is
taker_leaves (SenderFails n) w is = absurd is
taker_leaves TakerFails w is = absurd is

takers_leave : (es : List Event) (w : Way) → AllByRecursion IsOfTaker es → SameSender (run begins_note es w) w
takers_leave [] w all = record { put = refl; keeper = refl; stored = refl }
takers_leave (e ∷ es) w all =
    let one = taker_leaves e w all.0 in
    let more = takers_leave es (happens begins_note w e) all.1 in
    record { put = more.put ∙ one.put; keeper = more.keeper ∙ one.keeper; stored = more.stored ∙ one.stored }

taker_allowed : (e : Event) → IsOfTaker e → IsAllowed begins_note e
taker_allowed (Puts text) is = absurd is
taker_allowed Stores is = tt
taker_allowed Writes is = tt
taker_allowed (Notes text) is = absurd is
taker_allowed Comes is = tt
taker_allowed Saves is = tt
taker_allowed Tells is = tt
taker_allowed Hears is = tt
taker_allowed Begins is = tt
taker_allowed Breaks is = tt
taker_allowed (SenderFails n) is = tt
taker_allowed TakerFails is = tt

takers_allowed : (es : List Event) → AllByRecursion IsOfTaker es → AreAllowed begins_note es
takers_allowed [] all = tt
takers_allowed (e ∷ es) all = (taker_allowed e all.0, takers_allowed es all.1)

line_leaves : (w : Way) (texts : List Text) → SameTaker (with_line_of w texts) w
line_leaves w [] = record { part = refl; handed = refl }
line_leaves w (text ∷ texts) = record { part = refl; handed = refl }

write_leaves : (w : Way) (may : Bool) → SameTaker (write_if w may) w
write_leaves w true = line_leaves w (unsent w.keeper)
write_leaves w false = record { part = refl; handed = refl }

count_leaves : (w : Way) (counts : List ℕ) → SameTaker (with_count w counts) w
count_leaves w [] = record { part = refl; handed = refl }
count_leaves w (n ∷ ns) = record { part = refl; handed = refl }

hear_leaves : (w : Way) (is_open : Bool) → SameTaker (hear_if w is_open) w
hear_leaves w true = count_leaves w w.counts
hear_leaves w false = record { part = refl; handed = refl }

place_leaves : (w : Way) (place : Option ℕ) → SameTaker (with_place w place) w
place_leaves w None = record { part = refl; handed = refl }
place_leaves w (Some n) = record { part = refl; handed = refl }

sender_leaves : (e : Event) (w : Way) → IsOfSender e → SameTaker (happens begins_note w e) w
sender_leaves (Puts text) w is = record { part = refl; handed = refl }
sender_leaves Stores w is = record { part = refl; handed = refl }
sender_leaves Writes w is = write_leaves w (w.keeper.is_open && nat_lt (reach w.keeper) w.stored)
sender_leaves (Notes text) w is = record { part = refl; handed = refl }
sender_leaves Comes w is = absurd is
sender_leaves Saves w is = absurd is
sender_leaves Tells w is = absurd is
sender_leaves Hears w is = hear_leaves w w.keeper.is_open
sender_leaves Begins w is = place_leaves w w.place
sender_leaves Breaks w is = absurd is
sender_leaves (SenderFails n) w is = absurd is
sender_leaves TakerFails w is = absurd is

senders_leave : (es : List Event) (w : Way) → AllByRecursion IsOfSender es → SameTaker (run begins_note es w) w
senders_leave [] w all = record { part = refl; handed = refl }
senders_leave (e ∷ es) w all =
    let one = sender_leaves e w all.0 in
    let more = senders_leave es (happens begins_note w e) all.1 in
    record { part = more.part ∙ one.part; handed = more.handed ∙ one.handed }

sender_allowed : (e : Event) → IsOfSender e → IsAllowed begins_note e
sender_allowed (Puts text) is = is
sender_allowed Stores is = tt
sender_allowed Writes is = tt
sender_allowed (Notes text) is = is
sender_allowed Comes is = tt
sender_allowed Saves is = tt
sender_allowed Tells is = tt
sender_allowed Hears is = tt
sender_allowed Begins is = tt
sender_allowed Breaks is = tt
sender_allowed (SenderFails n) is = tt
sender_allowed TakerFails is = tt

senders_allowed : (es : List Event) → AllByRecursion IsOfSender es → AreAllowed begins_note es
senders_allowed [] all = tt
senders_allowed (e ∷ es) all = (sender_allowed e all.0, senders_allowed es all.1)

-- the server's ends do what they may
pub serves : (m : Moment) (ups downs : List Event) → AllByRecursion IsOfTaker ups → AllByRecursion IsOfSender downs → InStep m
    → InStep (record m { ways = record { up = run begins_note ups m.ways.up; down = run begins_note downs m.ways.down } })
serves m ups downs of_taker of_sender h =
    let up = takers_leave ups m.ways.up of_taker in
    let down = senders_leave downs m.ways.down of_sender in
    let now : Ways = record { up = run begins_note ups m.ways.up; down = run begins_note downs m.ways.down } in
    record {
      up = run_on begins_note m.ways.up ups h.up (takers_allowed ups of_taker);
      down = run_on begins_note m.ways.down downs h.down (senders_allowed downs of_sender);
      said = up.put ∙ h.said;
      told = down.handed ∙ h.told;
      stored = up.stored ∙ h.stored ∙ ap length (sym up.put);
      dropped = h.dropped ∙ ap (λ (k : Keeping). k.dropped) (sym up.keeper);
      kept = h.kept ∙ ap (λ (k : Keeping). k.kept) (sym up.keeper);
      taken = h.taken;
      confirming = h.confirming;
      few = h.few;
      stands = stands_same m.link.carriage m.connection m.link m.link m.ways now refl refl down.part up.keeper h.stands;
    }

-- Another carrier.

asks_other : (x : Connection) (l : Link) (w v : Ways) → x ≢ Carrier → AsksBy x l w → AsksBy x l v
asks_other Silent l w v other h = h
asks_other Carrier l w v other h = absurd (other refl)
asks_other Stranger l w v other h = tt

no_carrier : (c : Carriage) (x : Connection) (l : Link) (w v : Ways) → x ≢ Carrier → Stands c x l w → Stands c x l v
no_carrier Cut x l w v other h = h
no_carrier Asking x l w v other h = asks_other x l w v other h
no_carrier Carried x l w v other h = absurd (other h.0)
no_carrier Last x l w v other h = tt
no_carrier Over x l w v other h = tt

pub carries_late : (m : Moment) → m.connection ≢ Carrier → InStep m → InStep (record m { ways = with_carrier m.ways })
carries_late m none h = record {
  up = run_on begins_note m.ways.up (Breaks ∷ []) h.up (tt, tt);
  down = run_on begins_note m.ways.down (Breaks ∷ []) h.down (tt, tt);
  said = h.said;
  told = h.told;
  stored = h.stored;
  dropped = h.dropped;
  kept = h.kept;
  taken = h.taken;
  confirming = h.confirming;
  few = h.few;
  stands = no_carrier m.link.carriage m.connection m.link m.ways (with_carrier m.ways) none h.stands;
}

pub carries : (m : Moment) → m.link.carriage ≡ Asking → m.connection ≡ Silent → InStep m → InStep (record m { ways = with_carrier m.ways; connection = Carrier })
carries m asks silent h =
    let none : AsksBy Silent m.link m.ways = subst (λ x. AsksBy x m.link m.ways) silent (subst (λ c. Stands c m.connection m.link m.ways) asks h.stands) in
    record {
      up = run_on begins_note m.ways.up (Breaks ∷ []) h.up (tt, tt);
      down = run_on begins_note m.ways.down (Breaks ∷ []) h.down (tt, tt);
      said = h.said;
      told = h.told;
      stored = h.stored;
      dropped = h.dropped;
      kept = h.kept;
      taken = h.taken;
      confirming = h.confirming;
      few = h.few;
      stands = subst (λ c. Stands c Carrier m.link (with_carrier m.ways)) (sym asks) none;
    }

pub restarts : (m : Moment) (lost : ℕ) → m.connection ≢ Carrier → InStep m
    → InStep (record m { ways = record { up = happens begins_note m.ways.up TakerFails; down = happens begins_note m.ways.down (SenderFails lost) } })
restarts m lost none h =
    let now : Ways = record { up = happens begins_note m.ways.up TakerFails; down = happens begins_note m.ways.down (SenderFails lost) } in
    record {
      up = run_on begins_note m.ways.up (TakerFails ∷ []) h.up (tt, tt);
      down = run_on begins_note m.ways.down (SenderFails lost ∷ []) h.down (tt, tt);
      said = h.said;
      told = h.told;
      stored = h.stored;
      dropped = h.dropped;
      kept = h.kept;
      taken = h.taken;
      confirming = h.confirming;
      few = h.few;
      stands = no_carrier m.link.carriage m.connection m.link m.ways now none h.stands;
    }

-- Lines of its own.

asks_put : (x : Connection) (l : Link) (w : Ways) (text : Text) → AsksBy x l w → AsksBy x (with_text text l) (record w { up = run begins_note (Puts text ∷ Stores ∷ []) w.up })
asks_put Silent l w text h = h
asks_put Carrier l w text h = h
asks_put Stranger l w text h = h

stands_put : (c : Carriage) (x : Connection) (l : Link) (w : Ways) (text : Text) → Stands c x l w
    → Stands c x (with_text text l) (record w { up = run begins_note (Puts text ∷ Stores ∷ []) w.up })
stands_put Cut x l w text h = h
stands_put Asking x l w text h = asks_put x l w text h
stands_put Carried x l w text h = (h.0, h.1, ap (after_put text) h.2, h.3)
stands_put Last x l w text h = tt
stands_put Over x l w text h = tt

pub says : (m : Moment) (text : Text) → IsAllowed begins_note (Puts text) → InStep m
    → InStep (record m { link = with_text text m.link; ways = record m.ways { up = run begins_note (Puts text ∷ Stores ∷ []) m.ways.up }; said = m.said ++ text ∷ [] })
says m text is h = record {
  up = run_on begins_note m.ways.up (Puts text ∷ Stores ∷ []) h.up (is, (tt, tt));
  down = h.down;
  said = ap (λ l. l ++ text ∷ []) h.said;
  told = h.told;
  stored = refl;
  dropped = h.dropped;
  kept = ap (λ l. l ++ text ∷ []) h.kept;
  taken = h.taken;
  confirming = h.confirming;
  few = h.few;
  stands = stands_put m.link.carriage m.connection m.link m.ways text h.stands;
}

-- it asks a new connection
pub asks : (m : Moment) → m.link.carriage ≡ Cut → InStep m → InStep (record m { link = after_asking m.link; connection = Silent })
asks m cut h =
    let at : Stands Cut m.connection m.link m.ways = subst (λ c. Stands c m.connection m.link m.ways) cut h.stands in
    record {
      up = h.up;
      down = h.down;
      said = h.said;
      told = h.told;
      stored = h.stored;
      dropped = h.dropped;
      kept = h.kept;
      taken = h.taken;
      confirming = h.confirming;
      few = h.few;
      stands = at.1;
    }
