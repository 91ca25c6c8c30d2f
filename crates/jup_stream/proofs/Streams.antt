-- How lines are read, and bytes are put.
use Rattle.std.proofs.Common.{arith, slice_get, drop, zero, suc, ◌+◌, ◌-◌, ◌≤◌, ◌<◌, ◌≢◌, length, length-drop, ◌≡◌, ◌∙◌, sym, ap, subst, ℕ, inl, inr, List, [], ◌∷◌, ◌++◌, Option, Some, Result, Ok, Err, OnOk, OnErr, is_ok, refl, append_assoc, append-nil, rules, not, Bool, IsTrue, IsFalse, true≢false}
use Rattle.std.specs.Io.KnownBytes.{Consumes, Keeps, IsAtEnd, Appends}
use Rattle.std.proofs.KnownBytes.{Appends-nil, Consumes-nil, Consumes-trans, Consumes-kept}
use Rattle.jup_io.specs.Appends.{appends_kept}
use Rattle.jup_wire.specs.Streams.{Progress, HasRead, ending_at}
use Rattle.jup_stream.specs.declared.faults.StreamFault.TheVariants.{Wire, NoMemory, ReadsSpent, ReadFailed}
use Rattle.jup_stream.specs.Streams.{most_reads, Sourced, sourced, ReadsOn, HandsOn, Stops, stop_of, Put, put_as, fresh_put, Puts, IsFlushed, WritesFront}
use Rattle.jup_wire.specs.declared.line.Line.{Line}
use Rattle.jup_stream.specs.declared.faults.Stop.{Stop}
use Rattle.jup_stream.specs.declared.faults.Stop.TheVariants.{Fault}
use Rattle.jup_wire.specs.declared.faults.WireFault.{WireFault}

-- How lines are read.

pub reads_none : (a : Sourced) → ReadsOn a a
reads_none a = record {
  bytes = [];
  consumed = Consumes-nil a.known;
  counted = omega arith;
  goes_on = λ before lines h. subst (λ l. HasRead l (lines ++ a.waiting) a.progress) (sym (append-nil before)) h;
}

-- reads that gave nothing
reads_counted : (w : Option (List ℕ)) (p : Progress) (waiting : List Line) (reads more : ℕ) → reads ≤ more → ReadsOn (sourced w p waiting reads) (sourced w p waiting more)
reads_counted w p waiting reads more counted = record {
  bytes = [];
  consumed = Consumes-nil w;
  counted = counted;
  goes_on = λ before lines h. subst (λ l. HasRead l (lines ++ waiting) p) (sym (append-nil before)) h;
}

pub reads_both : (a b c : Sourced) → ReadsOn a b → ReadsOn b c → ReadsOn a c
reads_both a b c one two = record {
  bytes = one.bytes ++ two.bytes;
  consumed = Consumes-trans a.known b.known c.known one.bytes two.bytes one.consumed two.consumed;
  counted = omega (arith, one.counted, two.counted);
  goes_on = λ before lines h. subst (λ l. HasRead l (lines ++ c.waiting) c.progress) (append_assoc before one.bytes two.bytes) (two.goes_on (before ++ one.bytes) lines (one.goes_on before lines h));
}

-- one piece, if no line waits
pub reads_piece : (w w' : Option (List ℕ)) (p p' : Progress) (waiting waiting' : List Line) (piece : List ℕ) (reads more : ℕ) → waiting ≡ [] → reads ≤ more → Consumes w w' piece
    → ((before : List ℕ) (lines : List Line) → HasRead before lines p → HasRead (before ++ piece) (lines ++ waiting') p')
    → ReadsOn (sourced w p waiting reads) (sourced w' p' waiting' more)
reads_piece w w' p p' waiting waiting' piece reads more none counted consumed fed = record {
  bytes = piece;
  consumed = consumed;
  counted = counted;
  goes_on = λ before lines h. fed before lines (subst (λ l. HasRead before l p) (ap (λ l. lines ++ l) none ∙ append-nil lines) h);
}

-- lines that are handed on before more are
pub hands_more : (a b c : Sourced) (lines : List Line) (line : Line) → HandsOn a lines b → HandsOn b (line ∷ []) c → HandsOn a (lines ++ line ∷ []) c
hands_more a b c handed line one two = record {
  bytes = one.bytes ++ two.bytes;
  consumed = Consumes-trans a.known b.known c.known one.bytes two.bytes one.consumed two.consumed;
  counted = omega (arith, one.counted, two.counted);
  goes_on = λ before lines h.
      subst (λ l. HasRead l (lines ++ ((handed ++ line ∷ []) ++ c.waiting)) c.progress) (append_assoc before one.bytes two.bytes)
      (subst (λ l. HasRead ((before ++ one.bytes) ++ two.bytes) l c.progress) (append_assoc lines handed (line ∷ c.waiting) ∙ ap (λ l. lines ++ l) (sym (append_assoc handed (line ∷ []) c.waiting)))
      (two.goes_on (before ++ one.bytes) (lines ++ handed)
      (subst (λ l. HasRead (before ++ one.bytes) l b.progress) (sym (append_assoc lines handed b.waiting)) (one.goes_on before lines h))));
}

-- no line is handed on
pub hands_none : (a : Sourced) → HandsOn a [] a
hands_none a = reads_none a

-- ---- no further line

keeps_consumes : (w w' : Option (List ℕ)) → Keeps w w' → Consumes w w' []
keeps_consumes w w' k = Consumes-kept w w w' [] (Consumes-nil w) k

-- the bytes are at an end
pub stops_end : (w w' : Option (List ℕ)) (p : Progress) (waiting : List Line) (reads more : ℕ) (stop : Stop) → waiting ≡ [] → reads ≤ more → stop ≡ stop_of (ending_at p.fault p.part) → Keeps w w' → IsAtEnd w'
    → Stops (sourced w p waiting reads) stop (sourced w' p waiting more)
stops_end w w' p waiting reads more stop none counted is kept over = subst (λ s. Stops (sourced w p waiting reads) s (sourced w' p waiting more)) (sym is) (go (ending_at p.fault p.part) refl)
  where
    go : (r : Result (Unit {0}) WireFault) → ending_at p.fault p.part ≡ r → Stops (sourced w p waiting reads) (stop_of r) (sourced w' p waiting more)
    go (Ok u) e = record { middle = w; reads = reads_counted w p waiting reads more counted; lost = []; consumed = keeps_consumes w w' kept; none = none; why = (e, over, refl) }
    go (Err fault) e = record { middle = w; reads = reads_counted w p waiting reads more counted; lost = []; consumed = keeps_consumes w w' kept; none = none; why = (e, inr over, refl) }

-- a read failed
pub stops_failed : (w w' : Option (List ℕ)) (p : Progress) (waiting : List Line) (reads more : ℕ) → waiting ≡ [] → reads ≤ more → Keeps w w'
    → Stops (sourced w p waiting reads) (Fault ReadFailed) (sourced w' p waiting more)
stops_failed w w' p waiting reads more none counted kept =
    record { middle = w; reads = reads_counted w p waiting reads more counted; lost = []; consumed = keeps_consumes w w' kept; none = none; why = refl }

-- all reads were made
pub stops_spent : (a : Sourced) → a.waiting ≡ [] → a.reads ≡ most_reads → Stops a (Fault ReadsSpent) a
stops_spent a none spent = record { middle = a.known; reads = reads_none a; lost = []; consumed = Consumes-nil a.known; none = none; why = (refl, spent) }

-- an allocation failed for a piece
pub stops_memory : (w w' : Option (List ℕ)) (p p' : Progress) (waiting : List Line) (piece : List ℕ) (reads more : ℕ) → waiting ≡ [] → reads ≤ more → Consumes w w' piece → p' ≡ p
    → Stops (sourced w p waiting reads) (Fault NoMemory) (sourced w' p' waiting more)
stops_memory w w' p p' waiting piece reads more none counted consumed same = subst (λ q. Stops (sourced w p waiting reads) (Fault NoMemory) (sourced w' q waiting more)) (sym same)
    (record { middle = w; reads = reads_counted w p waiting reads more counted; lost = piece; consumed = consumed; none = none; why = tt })

-- the bytes have a fault
pub stops_fault : (a : Sourced) (fault : WireFault) → a.waiting ≡ [] → a.progress.fault ≡ Some fault → Stops a (Fault (Wire fault)) a
stops_fault a fault none met = record {
  middle = a.known;
  reads = reads_none a;
  lost = [];
  consumed = Consumes-nil a.known;
  none = none;
  why = (ap (λ o. ending_at o a.progress.part) met, inl met, refl);
}

pub stops_after : (a b c : Sourced) (stop : Stop) → ReadsOn a b → Stops b stop c → Stops a stop c
stops_after a b c stop one two = record {
  middle = two.middle;
  reads = reads_both a b (record c { known = two.middle }) one two.reads;
  lost = two.lost;
  consumed = two.consumed;
  none = two.none;
  why = two.why;
}

-- a line that waits is handed on
pub hands_first : (a b : Sourced) (line : Line) → b.known ≡ a.known → b.progress ≡ a.progress → b.reads ≡ a.reads → a.waiting ≡ line ∷ b.waiting → HandsOn a (line ∷ []) b
hands_first a b line known progress reads waiting = record {
  bytes = [];
  consumed = subst (λ k. Consumes a.known k []) (sym known) (Consumes-nil a.known);
  counted = omega (arith, reads);
  goes_on = λ before lines h.
      subst (λ l. HasRead l (lines ++ line ∷ b.waiting) b.progress) (sym (append-nil before))
      (subst (λ p. HasRead before (lines ++ line ∷ b.waiting) p) (sym progress) (subst (λ l. HasRead before (lines ++ l) a.progress) waiting h));
}

pub hands_after : (a b c : Sourced) (line : Line) → ReadsOn a b → HandsOn b (line ∷ []) c → HandsOn a (line ∷ []) c
hands_after a b c line one two = reads_both a b (record c { waiting = line ∷ c.waiting }) one two

-- the elements from a place on begin with the one there
pub drop_get : {A : Type 0} (xs : List A) (n : ℕ) (x : A) → slice_get xs n ≡ Some x → drop n xs ≡ x ∷ drop (n + 1) xs
drop_get [] n x e = absurd cc
drop_get (y ∷ xs) zero x e = let same : y ≡ x = cc in ap (λ z. z ∷ xs) same
drop_get (y ∷ xs) (suc n) x e = drop_get xs n x e ∙ ap (λ m. x ∷ drop m (y ∷ xs)) (let is : suc (n + 1) ≡ suc n + 1 = omega arith in is)

-- and there are some before the end
pub drop_some : {A : Type 0} (xs : List A) (n : ℕ) → n < length xs → drop n xs ≢ []
drop_some xs n less none = let left : length xs - n ≡ 0 = sym (length-drop n xs) ∙ ap length none in omega (arith, less, left)

-- How an output puts bytes.

-- what was written whole, or as far as that went
pub front_written : {E : Type 0} (old new : Option (List ℕ)) (bytes : List ℕ) (r : Result (Unit {0}) E) → OnOk r (Appends old new bytes) → OnErr r ((sent unsent : List ℕ) × (bytes ≡ sent ++ unsent) × Appends old new sent)
    → WritesFront old new bytes (is_ok r)
front_written old new bytes (Ok done) ok err = (bytes, [], sym (append-nil bytes), ok, λ all. refl)
front_written old new bytes (Err fault) ok err = (err.0, err.1, err.2, err.3, λ all. absurd cc)

-- all that is gathered goes out, or the front of it
pub puts_out : (w w' : Option (List ℕ)) (v v' t t' : Bool) (held held' : List ℕ) (all before failed : Bool) → WritesFront w w' held all → IsFalse before → (IsFalse failed → IsTrue all) → held' ≡ []
    → (IsTrue all → IsTrue v → IsTrue v') → Puts (put_as w v t held before) [] (put_as w' v' t' held' failed)
puts_out w w' v v' t t' held held' all before failed h none done empty well = record {
  moved = h.0;
  left = h.1;
  all = append-nil held ∙ h.2;
  written = h.3;
  held = λ e. empty ∙ sym (h.4 (done e));
  stays = λ e. absurd (true≢false (sym e ∙ none));
  well = λ e. well (done e);
}

-- a writer that passes on what it took, or fails
pub puts_on : (a : Put) (w w' : Option (List ℕ)) (v v' t t' : Bool) (held : List ℕ) (before failed : Bool) → Puts a [] (put_as w v t held before) → IsFalse before → Keeps w w'
    → (IsFalse failed → IsTrue v → IsTrue v') → Puts a [] (put_as w' v' t' held failed)
puts_on a w w' v v' t t' held before failed one none kept well = record {
  moved = one.moved;
  left = one.left;
  all = one.all;
  written = appends_kept a.written w w' one.moved one.written kept;
  held = λ _. one.held none;
  stays = λ e. absurd (true≢false (sym (one.stays e).0 ∙ none));
  well = λ e was. well e (one.well none was);
}

-- a writer that is given up
pub puts_lost : (w w' : Option (List ℕ)) (v v' t t' : Bool) (held : List ℕ) (failed : Bool) → Keeps w w' → (IsTrue v → IsTrue v') → Puts (put_as w v t held failed) [] (put_as w' v' t' held failed)
puts_lost w w' v v' t t' held failed kept well = record {
  moved = [];
  left = held;
  all = append-nil held;
  written = appends_kept w w w' [] (Appends-nil w) kept;
  held = λ _. refl;
  stays = λ e. (e, refl);
  well = λ _ was. well was;
}

-- a line that is dropped
pub puts_dropped : (a b : Put) (bytes : List ℕ) → Puts a [] b → IsTrue b.failed → Puts a bytes b
puts_dropped a b bytes one failed = record {
  moved = one.moved;
  left = one.left ++ bytes;
  all = ap (λ l. l ++ bytes) (sym (append-nil a.held) ∙ one.all) ∙ append_assoc one.moved one.left bytes;
  written = one.written;
  held = λ e. absurd (true≢false (sym failed ∙ e));
  stays = one.stays;
  well = one.well;
}

-- and one that is gathered
pub puts_behind : (a : Put) (w : Option (List ℕ)) (v t : Bool) (held items bytes : List ℕ) (failed : Bool) → Puts a [] (put_as w v t held failed) → IsFalse failed → items ≡ held ++ bytes
    → Puts a bytes (put_as w v t items failed)
puts_behind a w v t held items bytes failed one none e = record {
  moved = one.moved;
  left = one.left ++ bytes;
  all = ap (λ l. l ++ bytes) (sym (append-nil a.held) ∙ one.all) ∙ append_assoc one.moved one.left bytes;
  written = one.written;
  held = λ h. e ∙ ap (λ l. l ++ bytes) (one.held none);
  stays = one.stays;
  well = one.well;
}

-- what an output wrote of lines, once it is flushed
pub written_of : (old : Option (List ℕ)) (well lost : Bool) (b : Put) (bytes : List ℕ) → Puts (fresh_put old well lost) bytes b → IsFlushed b → WritesFront old b.written bytes (not b.failed)
written_of old well lost b bytes one flushed = (one.moved, one.left, one.all, one.written, λ e. rest e)
  where
    rest : IsTrue (not b.failed) → one.left ≡ []
    rest e = let none : IsFalse b.failed = search rules in sym (one.held none) ∙ flushed none
