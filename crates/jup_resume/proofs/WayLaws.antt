-- What a way keeps, whatever happens.
use Rattle.std.proofs.Common.{◌≡◌, ◌≢◌, ℕ, ◌+◌, ◌-◌, ◌<◌, ◌≤◌, Bool, true, false, ◌&&◌, nat_eq, nat_lt, List, [], ◌∷◌, ◌++◌, length, take, drop, Option, None, Some, refl, sym, ap, ◌∙◌, subst, arith, append_assoc, append-nil, length-append, length-drop, true≢false, flat_map}
use Rattle.std.specs.List.{AllByRecursion}
use Rattle.std.proofs.lemmas.List.{take_at, drop_at, drop-drop, drop-append-le, take-take, length-take-le, take-append-drop}
use Rattle.std.proofs.lemmas.List.Concat.{flat_map-append}
use Rattle.std.proofs.lemmas.Bool.Decides.{nat_tests}
use Rattle.jup_resume.proofs.Texts.{cut_same, lacks_it, all_both, all_left, all_right}
use Rattle.jup_resume.specs.Keepers.{Keeping, unsent, reach}
use Rattle.jup_resume.specs.Texts.{Text, HasNoFeed, spelled}
use Rattle.jup_resume.specs.Ways.{with_line, lines_in, with_read, Way, new_way, Event, Puts, Stores, Writes, Notes, Comes, Saves, Tells, Hears, Begins, Breaks, SenderFails, TakerFails, with_byte, come, with_line_of, write_if, with_count, hear_if, with_place, renewed, kept_after, happens, run, IsAllowed, AreAllowed, TakesNext, TakesPlace, Keeps}

-- a text without a line feed has no line in it
no_whole : (part : Text) (lines : List Text) → HasNoFeed part → part ≡ flat_map spelled lines → lines ≡ []
no_whole part [] free e = refl
no_whole part (l ∷ ls) free e =
    let is : part ≡ l ++ 10 ∷ flat_map spelled ls = e ∙ append_assoc l (10 ∷ []) (flat_map spelled ls) in
    absurd (lacks_it 10 l (flat_map spelled ls) (subst HasNoFeed is free))

cons_nil : (p w : List ℕ) (b : ℕ) → p ++ b ∷ w ≡ [] → ⊥
cons_nil p w b e = let long : length (p ++ b ∷ w) ≡ 0 = ap length e in omega (arith, long, length-append p (b ∷ w))

flat_end : (ls : List Text) (x : Text) → flat_map spelled (ls ++ x ∷ []) ≡ flat_map spelled ls ++ spelled x
flat_end ls x = flat_map-append spelled ls (x ∷ []) ∙ ap (λ b. flat_map spelled ls ++ b) (append-nil (spelled x))

module _ (note : Text → Bool) where
  with_line-append : (t : Bool) (x : Text) (a b : List Text) → with_line t x (a ++ b) ≡ with_line t x a ++ b
  with_line-append true x a b = refl
  with_line-append false x a b = refl

  lines_in-append : (xs ys : List Text) → lines_in note (xs ++ ys) ≡ lines_in note xs ++ lines_in note ys
  lines_in-append [] ys = refl
  lines_in-append (x ∷ xs) ys = ap (with_line (note x) x) (lines_in-append xs ys) ∙ with_line-append (note x) x (lines_in note xs) (lines_in note ys)

  lines_in_line : (ls : List Text) (x : Text) → note x ≡ false → lines_in note (ls ++ x ∷ []) ≡ lines_in note ls ++ x ∷ []
  lines_in_line ls x is = lines_in-append ls (x ∷ []) ∙ ap (λ t. lines_in note ls ++ with_line t x []) is

  lines_in_note : (ls : List Text) (x : Text) → note x ≡ true → lines_in note (ls ++ x ∷ []) ≡ lines_in note ls
  lines_in_note ls x is = lines_in-append ls (x ∷ []) ∙ ap (λ t. lines_in note ls ++ with_line t x []) is ∙ append-nil (lines_in note ls)

-- Counts that ascend.

abbrev Ascends : ℕ → List ℕ → ℕ → Type 0
Ascends low [] high = low ≤ high
Ascends low (n ∷ ns) high = (low ≤ n) × Ascends n ns high

Ascends-le : (a b : ℕ) (ns : List ℕ) → Ascends a ns b → a ≤ b
Ascends-le a b [] h = h
Ascends-le a b (n ∷ ns) h = let more : n ≤ b = Ascends-le n b ns h.1 in omega (arith, h.0, more)

Ascends-more : (a b c : ℕ) (ns : List ℕ) → Ascends a ns b → b ≤ c → Ascends a ns c
Ascends-more a b c [] h l = omega (arith, h, l)
Ascends-more a b c (n ∷ ns) h l = (h.0, Ascends-more n b c ns h.1 l)

Ascends-push : (a b : ℕ) (ns : List ℕ) → Ascends a ns b → Ascends a (ns ++ b ∷ []) b
Ascends-push a b [] h = (h, omega arith)
Ascends-push a b (n ∷ ns) h = (h.0, Ascends-push n b ns h.1)

-- What holds of a way between any two events.

-- a line of the link
abbrev IsClean : (Text → Bool) → Text → Type 0
IsClean note text = HasNoFeed text × (note text ≡ false)

-- the bytes on their way are whole lines, of the first of which a part has come. Those of the link are the next that were put
record OnWay (note : Text → Bool) (put handed : List Text) (part : Text) (wire : List ℕ) (stored : ℕ) (k : Keeping) : Type 0 where
  lines : List Text
  rest : List Text
  feeds : AllByRecursion HasNoFeed lines
  part_feeds : HasNoFeed part
  bytes : part ++ wire ≡ flat_map spelled lines
  ahead : put ≡ handed ++ (lines_in note lines ++ rest)
  low : length handed + length (lines_in note lines) ≤ stored
  at_open : k.is_open ≡ true → reach k ≡ length handed + length (lines_in note lines)
  at_shut : k.is_open ≡ false → lines_in note lines ≡ []

record Holds (note : Text → Bool) (w : Way) : Type 0 where
  clean : AllByRecursion (IsClean note) w.put
  kept : w.keeper.kept ≡ drop w.keeper.dropped w.put
  stored : w.stored ≤ length w.put
  counts : Ascends w.keeper.dropped w.counts w.safe
  safe : w.safe ≤ length w.handed
  place : (n : ℕ) → w.place ≡ Some n → (n ≡ length w.handed) × (w.keeper.is_open ≡ false)
  on_way : OnWay note w.put w.handed w.part w.wire w.stored w.keeper

none_some : {A : Type 0} (x : A) → None ≡ Some x → ⊥
none_some x e = absurd cc

same_some : {A : Type 0} (x y : A) → Some x ≡ Some y → x ≡ y
same_some x y e = cc

holds-new : (note : Text → Bool) → Holds note new_way
holds-new note = record {
  clean = tt;
  kept = refl;
  stored = omega arith;
  counts = omega arith;
  safe = omega arith;
  place = λ n e. absurd (none_some n e);
  on_way = record {
    lines = [];
    rest = [];
    feeds = tt;
    part_feeds = tt;
    bytes = refl;
    ahead = refl;
    low = omega arith;
    at_open = λ e. absurd (true≢false (sym e));
    at_shut = λ e. refl;
  };
}

and_parts : (a b : Bool) → (a && b) ≡ true → (a ≡ true) × (b ≡ true)
and_parts true true e = (refl, refl)
and_parts true false e = absurd (true≢false (sym e))
and_parts false b e = absurd (true≢false (sym e))

below_of : (a b : ℕ) → nat_lt a b ≡ true → a < b
below_of a b e = grind (arith, nat_tests)

module _ (note : Text → Bool) where
  -- no more are kept no more than were put
  dropped_put : (w : Way) → Holds note w → w.keeper.dropped ≤ length w.put
  dropped_put w h =
      let below = Ascends-le w.keeper.dropped w.safe w.counts h.counts in
      let low = h.on_way.low in
      omega (arith, below, h.safe, low, h.stored)

  -- all that is on the way was put
  put_long : (w : Way) → (h : Holds note w) → length w.handed + length (lines_in note h.on_way.lines) ≤ length w.put
  put_long w h = let low = h.on_way.low in omega (arith, low, h.stored)

  -- what is not written yet is what comes after the lines on the way
  rest_is : (w : Way) → (h : Holds note w) → w.keeper.is_open ≡ true → unsent w.keeper ≡ h.on_way.rest
  rest_is w h is =
      let o = h.on_way in
      let on = lines_in note o.lines in
      ap (λ l. drop w.keeper.sent l) h.kept
      ∙ drop-drop w.keeper.sent w.keeper.dropped w.put
      ∙ ap (λ n. drop n w.put) (o.at_open is)
      ∙ ap (λ l. drop (length w.handed + length on) l) (o.ahead ∙ sym (append_assoc w.handed on o.rest))
      ∙ drop_at (w.handed ++ on) o.rest (length w.handed + length on) (length-append w.handed on)

  puts : (w : Way) (text : Text) → IsClean note text → Holds note w → Holds note (happens note w (Puts text))
  puts w text is h = let o = h.on_way in record {
    clean = all_both (IsClean note) w.put (text ∷ []) h.clean (is, tt);
    kept = ap (λ l. l ++ text ∷ []) h.kept ∙ sym (drop-append-le w.keeper.dropped w.put (text ∷ []) (dropped_put w h));
    stored = omega (arith, h.stored, length-append w.put (text ∷ []));
    counts = h.counts;
    safe = h.safe;
    place = h.place;
    on_way = record {
      lines = o.lines;
      rest = o.rest ++ text ∷ [];
      feeds = o.feeds;
      part_feeds = o.part_feeds;
      bytes = o.bytes;
      ahead = ap (λ l. l ++ text ∷ []) o.ahead
          ∙ append_assoc w.handed (lines_in note o.lines ++ o.rest) (text ∷ [])
          ∙ ap (λ l. w.handed ++ l) (append_assoc (lines_in note o.lines) o.rest (text ∷ []));
      low = o.low;
      at_open = o.at_open;
      at_shut = o.at_shut;
    };
  }

  stores : (w : Way) → Holds note w → Holds note (happens note w Stores)
  stores w h = let o = h.on_way in record {
    clean = h.clean;
    kept = h.kept;
    stored = omega arith;
    counts = h.counts;
    safe = h.safe;
    place = h.place;
    on_way = record {
      lines = o.lines;
      rest = o.rest;
      feeds = o.feeds;
      part_feeds = o.part_feeds;
      bytes = o.bytes;
      ahead = o.ahead;
      low = put_long w h;
      at_open = o.at_open;
      at_shut = o.at_shut;
    };
  }

  written : (w : Way) → Holds note w → w.keeper.is_open ≡ true → reach w.keeper < w.stored
      → (texts : List Text) → unsent w.keeper ≡ texts → Holds note (with_line_of w texts)
  written w h is below [] e = h
  written w h is below (x ∷ xs) e =
      let o = h.on_way in
      let on = lines_in note o.lines in
      let rest : o.rest ≡ x ∷ xs = sym (rest_is w h is) ∙ e in
      let ahead : w.put ≡ w.handed ++ (on ++ x ∷ xs) = o.ahead ∙ ap (λ l. w.handed ++ (on ++ l)) rest in
      let clean = all_right (IsClean note) on (x ∷ xs) (all_right (IsClean note) w.handed (on ++ x ∷ xs) (subst (AllByRecursion (IsClean note)) ahead h.clean)) in
      let now : lines_in note (o.lines ++ x ∷ []) ≡ on ++ x ∷ [] = lines_in_line note o.lines x clean.0.1 in
      let long : length (lines_in note (o.lines ++ x ∷ [])) ≡ length on + 1 = ap length now ∙ length-append on (x ∷ []) in
      let at : reach w.keeper ≡ length w.handed + length on = o.at_open is in
      record {
        clean = h.clean;
        kept = h.kept;
        stored = h.stored;
        counts = h.counts;
        safe = h.safe;
        place = h.place;
        on_way = record {
          lines = o.lines ++ x ∷ [];
          rest = xs;
          feeds = all_both HasNoFeed o.lines (x ∷ []) o.feeds (clean.0.0, tt);
          part_feeds = o.part_feeds;
          bytes = sym (append_assoc w.part w.wire (spelled x)) ∙ ap (λ b. b ++ spelled x) o.bytes ∙ sym (flat_end o.lines x);
          ahead = ahead ∙ ap (λ l. w.handed ++ l) (sym (append_assoc on (x ∷ []) xs) ∙ ap (λ l. l ++ xs) (sym now));
          low = omega (arith, long, at, below);
          at_open = λ f. omega (arith, long, at);
          at_shut = λ f. absurd (true≢false (sym is ∙ f));
        };
      }

  writes : (w : Way) → Holds note w → (t : Bool) → (w.keeper.is_open && nat_lt (reach w.keeper) w.stored) ≡ t → Holds note (write_if w t)
  writes w h false e = h
  writes w h true e =
      let both = and_parts w.keeper.is_open (nat_lt (reach w.keeper) w.stored) e in
      written w h both.0 (below_of (reach w.keeper) w.stored both.1) (unsent w.keeper) refl

  notes : (w : Way) (text : Text) → HasNoFeed text → note text ≡ true → Holds note w → Holds note (happens note w (Notes text))
  notes w text free is h =
      let o = h.on_way in
      let same : lines_in note (o.lines ++ text ∷ []) ≡ lines_in note o.lines = lines_in_note note o.lines text is in
      let long : length (lines_in note (o.lines ++ text ∷ [])) ≡ length (lines_in note o.lines) = ap length same in
      record {
        clean = h.clean;
        kept = h.kept;
        stored = h.stored;
        counts = h.counts;
        safe = h.safe;
        place = h.place;
        on_way = record {
          lines = o.lines ++ text ∷ [];
          rest = o.rest;
          feeds = all_both HasNoFeed o.lines (text ∷ []) o.feeds (free, tt);
          part_feeds = o.part_feeds;
          bytes = sym (append_assoc w.part w.wire (spelled text)) ∙ ap (λ b. b ++ spelled text) o.bytes ∙ sym (flat_end o.lines text);
          ahead = o.ahead ∙ ap (λ l. w.handed ++ (l ++ o.rest)) (sym same);
          low = omega (arith, long, o.low);
          at_open = λ f. o.at_open f ∙ ap (λ n. length w.handed + n) (sym long);
          at_shut = λ f. same ∙ o.at_shut f;
        };
      }

  -- the last byte of a line comes
  line_came : (w : Way) (bs : List ℕ) → (h : Holds note w) → (l : Text) (ls : List Text) → h.on_way.lines ≡ l ∷ ls → w.part ≡ l → bs ≡ flat_map spelled ls
      → (t : Bool) → note w.part ≡ t → Holds note (record w { wire = bs; part = []; handed = with_read t w.part w.handed })
  line_came w bs h l ls lines part more true is =
      let o = h.on_way in
      let now : lines_in note o.lines ≡ lines_in note ls = ap (lines_in note) lines ∙ ap (λ b. with_line b l (lines_in note ls)) (ap note (sym part) ∙ is) in
      let long : length (lines_in note o.lines) ≡ length (lines_in note ls) = ap length now in
      record {
        clean = h.clean;
        kept = h.kept;
        stored = h.stored;
        counts = h.counts;
        safe = h.safe;
        place = h.place;
        on_way = record {
          lines = ls;
          rest = o.rest;
          feeds = (let both : AllByRecursion HasNoFeed (l ∷ ls) = subst (AllByRecursion HasNoFeed) lines o.feeds in both.1);
          part_feeds = tt;
          bytes = more;
          ahead = o.ahead ∙ ap (λ x. w.handed ++ (x ++ o.rest)) now;
          low = omega (arith, long, o.low);
          at_open = λ f. o.at_open f ∙ ap (λ n. length w.handed + n) long;
          at_shut = λ f. sym now ∙ o.at_shut f;
        };
      }
  line_came w bs h l ls lines part more false is =
      let o = h.on_way in
      let now : lines_in note o.lines ≡ w.part ∷ lines_in note ls =
      ap (lines_in note) lines ∙ ap (λ b. with_line b l (lines_in note ls)) (ap note (sym part) ∙ is) ∙ ap (λ x. x ∷ lines_in note ls) (sym part) in
      let long : length (lines_in note o.lines) ≡ length (lines_in note ls) + 1 = ap length now ∙ omega arith in
      let one : length (w.handed ++ w.part ∷ []) ≡ length w.handed + 1 = length-append w.handed (w.part ∷ []) in
      let shut : w.keeper.is_open ≡ false → ⊥ = λ f. (let none : length (lines_in note o.lines) ≡ 0 = ap length (o.at_shut f) in omega (arith, none, long)) in
      record {
        clean = h.clean;
        kept = h.kept;
        stored = h.stored;
        counts = h.counts;
        safe = omega (arith, h.safe, one);
        place = λ n e. absurd (shut (h.place n e).1);
        on_way = record {
          lines = ls;
          rest = o.rest;
          feeds = (let both : AllByRecursion HasNoFeed (l ∷ ls) = subst (AllByRecursion HasNoFeed) lines o.feeds in both.1);
          part_feeds = tt;
          bytes = more;
          ahead = o.ahead ∙ ap (λ x. w.handed ++ (x ++ o.rest)) now ∙ sym (append_assoc w.handed (w.part ∷ []) (lines_in note ls ++ o.rest));
          low = omega (arith, long, one, o.low);
          at_open = λ f. (let at = o.at_open f in omega (arith, long, one, at));
          at_shut = λ f. absurd (shut f);
        };
      }

  byte_came : (w : Way) (b : ℕ) (bs : List ℕ) → (h : Holds note w) → w.wire ≡ b ∷ bs → (lines : List Text) → h.on_way.lines ≡ lines
      → (t : Bool) → nat_eq b 10 ≡ t → Holds note (with_byte note w b bs t)
  byte_came w b bs h wire [] lines t is =
      absurd (cons_nil w.part bs b (ap (λ x. w.part ++ x) (sym wire) ∙ h.on_way.bytes ∙ ap (flat_map spelled) lines))
  byte_came w b bs h wire (l ∷ ls) lines true is =
      let o = h.on_way in
      let feed : b ≡ 10 = grind (arith, nat_tests) in
      let both : AllByRecursion HasNoFeed (l ∷ ls) = subst (AllByRecursion HasNoFeed) lines o.feeds in
      let whole : w.part ++ 10 ∷ bs ≡ l ++ 10 ∷ flat_map spelled ls =
      ap (λ x. w.part ++ x ∷ bs) (sym feed) ∙ ap (λ x. w.part ++ x) (sym wire) ∙ o.bytes ∙ ap (flat_map spelled) lines ∙ append_assoc l (10 ∷ []) (flat_map spelled ls) in
      let cut = cut_same 10 w.part l bs (flat_map spelled ls) o.part_feeds both.0 whole in
      line_came w bs h l ls lines cut.0 cut.1 (note w.part) refl
  byte_came w b bs h wire (l ∷ ls) lines false is =
      let o = h.on_way in
      let other : b ≢ 10 = λ e. grind (arith, nat_tests) in
      record {
        clean = h.clean;
        kept = h.kept;
        stored = h.stored;
        counts = h.counts;
        safe = h.safe;
        place = h.place;
        on_way = record {
          lines = o.lines;
          rest = o.rest;
          feeds = o.feeds;
          part_feeds = all_both (λ x. x ≢ 10) w.part (b ∷ []) o.part_feeds (other, tt);
          bytes = append_assoc w.part (b ∷ []) bs ∙ ap (λ x. w.part ++ x) (sym wire) ∙ o.bytes;
          ahead = o.ahead;
          low = o.low;
          at_open = o.at_open;
          at_shut = o.at_shut;
        };
      }

  comes : (w : Way) → (h : Holds note w) → (bytes : List ℕ) → w.wire ≡ bytes → Holds note (come note w bytes)
  comes w h [] e = h
  comes w h (b ∷ bs) e = byte_came w b bs h e h.on_way.lines refl (nat_eq b 10) refl

  saves : (w : Way) → Holds note w → Holds note (happens note w Saves)
  saves w h = record {
    clean = h.clean;
    kept = h.kept;
    stored = h.stored;
    counts = Ascends-more w.keeper.dropped w.safe (length w.handed) w.counts h.counts h.safe;
    safe = omega arith;
    place = h.place;
    on_way = h.on_way;
  }

  tells : (w : Way) → Holds note w → Holds note (happens note w Tells)
  tells w h = record {
    clean = h.clean;
    kept = h.kept;
    stored = h.stored;
    counts = Ascends-push w.keeper.dropped w.safe w.counts h.counts;
    safe = h.safe;
    place = h.place;
    on_way = h.on_way;
  }

  counted : (w : Way) → Holds note w → w.keeper.is_open ≡ true → (counts : List ℕ) → w.counts ≡ counts
      → TakesNext w.keeper counts × Holds note (with_count w counts)
  counted w h is [] e = (tt, h)
  counted w h is (n ∷ ns) e =
      let o = h.on_way in
      let k = w.keeper in
      let all : Ascends k.dropped (n ∷ ns) w.safe = subst (λ x. Ascends k.dropped x w.safe) e h.counts in
      let low : k.dropped ≤ n = all.0 in
      let high : n ≤ w.safe = Ascends-le n w.safe ns all.1 in
      let at : reach k ≡ length w.handed + length (lines_in note o.lines) = o.at_open is in
      let fits : n ≤ k.dropped + k.sent = omega (arith, high, h.safe, at) in
      let same : n + (k.sent - (n - k.dropped)) ≡ k.dropped + k.sent = omega (arith, low, fits) in
      let to : k.dropped + (n - k.dropped) ≡ n = omega (arith, low) in (
        record { low = low; high = fits },
        record {
          clean = h.clean;
          kept = ap (λ l. drop (n - k.dropped) l) h.kept ∙ drop-drop (n - k.dropped) k.dropped w.put ∙ ap (λ x. drop x w.put) to;
          stored = h.stored;
          counts = all.1;
          safe = h.safe;
          place = h.place;
          on_way = record {
            lines = o.lines;
            rest = o.rest;
            feeds = o.feeds;
            part_feeds = o.part_feeds;
            bytes = o.bytes;
            ahead = o.ahead;
            low = o.low;
            at_open = λ f. same ∙ at;
            at_shut = o.at_shut;
          };
        },
      )

  hears : (w : Way) → Holds note w → (t : Bool) → w.keeper.is_open ≡ t → Holds note (hear_if w t)
  hears w h true e = (counted w h e w.counts refl).1
  hears w h false e = h

  placed : (w : Way) → Holds note w → (place : Option ℕ) → w.place ≡ place → TakesPlace w.keeper place × Holds note (with_place w place)
  placed w h None e = (tt, h)
  placed w h (Some n) e =
      let o = h.on_way in
      let k = w.keeper in
      let at = h.place n e in
      let none : lines_in note o.lines ≡ [] = o.at_shut at.1 in
      let long : length (lines_in note o.lines) ≡ 0 = ap length none in
      let below : k.dropped ≤ w.safe = Ascends-le k.dropped w.safe w.counts h.counts in
      let low : k.dropped ≤ n = omega (arith, at.0, below, h.safe) in
      let kept : length k.kept ≡ length w.put - k.dropped = ap length h.kept ∙ length-drop k.dropped w.put in
      let high : n ≤ k.dropped + length k.kept = omega (arith, at.0, kept, put_long w h, low) in
      let to : k.dropped + (n - k.dropped) ≡ n = omega (arith, low) in (
        record { low = low; high = high },
        record {
          clean = h.clean;
          kept = h.kept;
          stored = h.stored;
          counts = h.counts;
          safe = h.safe;
          place = λ m f. absurd (none_some m f);
          on_way = record {
            lines = o.lines;
            rest = o.rest;
            feeds = o.feeds;
            part_feeds = o.part_feeds;
            bytes = o.bytes;
            ahead = o.ahead;
            low = o.low;
            at_open = λ f. omega (arith, to, at.0, long);
            at_shut = λ f. absurd (true≢false f);
          };
        },
      )

  -- a new carrier
  renews : (w : Way) (put handed rest : List Text) (keeper : Keeping) → AllByRecursion (IsClean note) put
      → keeper.kept ≡ drop keeper.dropped put → w.stored ≤ length put → keeper.dropped ≤ w.safe → w.safe ≤ length handed
      → put ≡ handed ++ rest → length handed ≤ w.stored
      → Holds note (renewed handed keeper (record w { put = put }))
  renews w put handed rest keeper clean kept stored below safe ahead low = record {
    clean = clean;
    kept = kept;
    stored = stored;
    counts = below;
    safe = safe;
    place = λ n e. (sym (same_some (length handed) n e), refl);
    on_way = record {
      lines = [];
      rest = rest;
      feeds = tt;
      part_feeds = tt;
      bytes = refl;
      ahead = ahead;
      low = omega (arith, low);
      at_open = λ e. absurd (true≢false (sym e));
      at_shut = λ e. refl;
    };
  }

  breaks : (w : Way) → Holds note w → Holds note (happens note w Breaks)
  breaks w h =
      let o = h.on_way in
      renews w w.put w.handed (lines_in note o.lines ++ o.rest) w.keeper h.clean h.kept h.stored
      (Ascends-le w.keeper.dropped w.safe w.counts h.counts) h.safe o.ahead (omega (arith, o.low))

  taker_fails : (w : Way) → Holds note w → Holds note (happens note w TakerFails)
  taker_fails w h =
      let o = h.on_way in
      let on = lines_in note o.lines ++ o.rest in
      let long : length (take w.safe w.handed) ≡ w.safe = length-take-le w.safe w.handed h.safe in
      let ahead : w.put ≡ take w.safe w.handed ++ (drop w.safe w.handed ++ on) =
      o.ahead ∙ ap (λ l. l ++ on) (sym (take-append-drop w.safe w.handed)) ∙ append_assoc (take w.safe w.handed) (drop w.safe w.handed) on in
      renews w w.put (take w.safe w.handed) (drop w.safe w.handed ++ on) w.keeper h.clean h.kept h.stored
      (Ascends-le w.keeper.dropped w.safe w.counts h.counts) (omega (arith, long)) ahead (omega (arith, long, h.safe, o.low))

  sender_fails : (w : Way) (n : ℕ) → Holds note w → Holds note (happens note w (SenderFails n))
  sender_fails w n h =
      let o = h.on_way in
      let on = lines_in note o.lines ++ o.rest in
      let put : List Text = take w.stored w.put in
      let d : ℕ = w.keeper.dropped - n in
      let low : length w.handed ≤ w.stored = omega (arith, o.low) in
      let first : take (length w.handed) put ≡ w.handed =
      take-take (length w.handed) w.stored w.put low ∙ ap (λ l. take (length w.handed) l) o.ahead ∙ take_at w.handed on (length w.handed) refl in
      let ahead : put ≡ w.handed ++ drop (length w.handed) put =
      sym (take-append-drop (length w.handed) put) ∙ ap (λ l. l ++ drop (length w.handed) put) first in
      let clean = all_left (IsClean note) put (drop w.stored w.put)
      (subst (AllByRecursion (IsClean note)) (sym (take-append-drop w.stored w.put)) h.clean) in
      let long : length put ≡ w.stored = length-take-le w.stored w.put h.stored in
      let below : w.keeper.dropped ≤ w.safe = Ascends-le w.keeper.dropped w.safe w.counts h.counts in
      renews w put w.handed (drop (length w.handed) put) (kept_after d put) clean refl (omega (arith, long)) (omega (arith, below)) h.safe ahead low

  stays : (w : Way) (e : Event) → IsAllowed note e → Holds note w → Holds note (happens note w e)
  stays w (Puts text) is h = puts w text is h
  stays w Stores is h = stores w h
  stays w Writes is h = writes w h (w.keeper.is_open && nat_lt (reach w.keeper) w.stored) refl
  stays w (Notes text) is h = notes w text is.0 is.1 h
  stays w Comes is h = comes w h w.wire refl
  stays w Saves is h = saves w h
  stays w Tells is h = tells w h
  stays w Hears is h = hears w h w.keeper.is_open refl
  stays w Begins is h = (placed w h w.place refl).1
  stays w Breaks is h = breaks w h
  stays w (SenderFails n) is h = sender_fails w n h
  stays w TakerFails is h = taker_fails w h

  runs : (events : List Event) (w : Way) → AreAllowed note events → Holds note w → Holds note (run note events w)
  runs [] w all h = h
  runs (e ∷ es) w all h = runs es (happens note w e) all.1 (stays w e all.0 h)

  promised : (w : Way) → Holds note w → Keeps w
  promised w h = let o = h.on_way in record {
    in_order = (lines_in note o.lines ++ o.rest, o.ahead);
    stored = omega (arith, o.low);
    safe = Ascends-le w.keeper.dropped w.safe w.counts h.counts;
    safe_of = h.safe;
    kept = h.kept;
    place = (placed w h w.place refl).0;
    counts = λ is. (counted w h is w.counts refl).0;
    whole = λ is none wire.
        let all : w.part ≡ flat_map spelled o.lines = sym (append-nil w.part) ∙ ap (λ x. w.part ++ x) (sym wire) ∙ o.bytes in
        let lines : o.lines ≡ [] = no_whole w.part o.lines o.part_feeds all in
        let rest : o.rest ≡ [] = sym (rest_is w h is) ∙ none in
        sym (o.ahead ∙ ap (λ l. w.handed ++ (lines_in note l ++ o.rest)) lines ∙ ap (λ l. w.handed ++ l) rest ∙ append-nil w.handed);
  }

  pub way_keeps : (events : List Event) → AreAllowed note events → Keeps (run note events new_way)
  way_keeps events all = promised (run note events new_way) (runs events new_way all (holds-new note))
