-- Lines that lie side by side as bytes.
use Rattle.std.proofs.Common.{◌≡◌, ◌≢◌, ℕ, ◌+◌, ◌-◌, ◌<◌, ◌≤◌, ◌==◌, List, [], ◌∷◌, ◌++◌, length, get_or, take, drop, suc, refl, sym, ap, ◌∙◌, subst, arith, inl, inr, add-one, append_assoc, append-nil, length-append, length-drop, flat_map}
use Rattle.std.specs.List.{AllByRecursion}
use Rattle.std.proofs.lemmas.List.{drop_at, drop-take, take-take, take-append-le, take-append-drop}
use Rattle.std.proofs.lemmas.List.Concat.{flat_map-append}
use Rattle.std.proofs.lemmas.Bool.{ne_eqb, cases_Bool, eqb-false}
use Rattle.std.proofs.Math.Seq.{take-suc, drop-cons}
use Rattle.jup_resume.specs.Texts.{Text, HasNoFeed, spelled}
use Rattle.jup_resume.specs.Keepers.{size_of, with_first, texts_of, AreLines}
use Rattle.jup_resume.proofs.Texts.{all_right}

-- The texts of bytes.

free_first : (byte : ℕ) → byte ≢ 10 → (texts : List Text) → AllByRecursion HasNoFeed texts → AllByRecursion HasNoFeed (with_first byte texts)
free_first byte other [] all = ((other, tt), tt)
free_first byte other (text ∷ texts) all = ((other, all.0), all.1)

pub texts_free : (bytes : List ℕ) → AllByRecursion HasNoFeed (texts_of bytes)
unfolding texts_of
texts_free [] = tt
texts_free (byte ∷ bytes) =
    elim (cases_Bool (byte == 10)) [
      | inl feed ↦ rw feed (tt, texts_free bytes)
      | inr other ↦ rw other (free_first byte (eqb-false byte 10 other) (texts_of bytes) (texts_free bytes))
    ]

texts_of-line : (text bytes : List ℕ) → HasNoFeed text → texts_of (spelled text ++ bytes) ≡ text ∷ texts_of bytes
unfolding texts_of
texts_of-line [] bytes free = refl
texts_of-line (byte ∷ text) bytes free = rw (ne_eqb byte 10 free.0) (ap (with_first byte) (texts_of-line text bytes free.1))

texts_of-lines : (texts : List Text) (bytes : List ℕ) → AllByRecursion HasNoFeed texts → texts_of (flat_map spelled texts ++ bytes) ≡ texts ++ texts_of bytes
texts_of-lines [] bytes free = refl
texts_of-lines (text ∷ texts) bytes free =
    ap texts_of (append_assoc (spelled text) (flat_map spelled texts) bytes)
    ∙ texts_of-line text (flat_map spelled texts ++ bytes) free.0
    ∙ ap (λ ts. text ∷ ts) (texts_of-lines texts bytes free.1)

pub none_left : texts_of [] ≡ []
unfolding texts_of
none_left = refl

texts_whole : (texts : List Text) → AllByRecursion HasNoFeed texts → texts_of (flat_map spelled texts) ≡ texts
texts_whole texts free =
    ap texts_of (sym (append-nil (flat_map spelled texts))) ∙ texts_of-lines texts [] free ∙ ap (λ ts. texts ++ ts) none_left ∙ append-nil texts

one_text : (text : Text) → HasNoFeed text → texts_of (spelled text) ≡ text ∷ []
one_text text free = ap texts_of (sym (append-nil (spelled text))) ∙ texts_of-line text [] free ∙ ap (λ ts. text ∷ ts) none_left

-- The line at a place.

pub record LineAt (texts : List Text) (bytes : List ℕ) (i size : ℕ) : Type 0 where
  pub text : Text
  pub rest : List Text
  pub free : HasNoFeed text
  pub left : drop i texts ≡ text ∷ rest
  pub bytes_left : drop size bytes ≡ spelled text ++ flat_map spelled rest
  pub more : size_of (take (i + 1) texts) ≡ size + length (spelled text)

-- so many lines have the bytes before those of the others
cut_at : (texts : List Text) (bytes : List ℕ) (i size : ℕ) → bytes ≡ flat_map spelled texts → size ≡ size_of (take i texts) → drop size bytes ≡ flat_map spelled (drop i texts)
cut_at texts bytes i size whole is =
    let parts : bytes ≡ flat_map spelled (take i texts) ++ flat_map spelled (drop i texts) =
    whole ∙ ap (flat_map spelled) (sym (take-append-drop i texts)) ∙ flat_map-append spelled (take i texts) (drop i texts) in
    ap (drop size) parts ∙ drop_at (flat_map spelled (take i texts)) (flat_map spelled (drop i texts)) size (sym is)

free_from : (texts : List Text) (i : ℕ) → AllByRecursion HasNoFeed texts → AllByRecursion HasNoFeed (drop i texts)
free_from texts i free = all_right HasNoFeed (take i texts) (drop i texts) (subst (AllByRecursion HasNoFeed) (sym (take-append-drop i texts)) free)

pub line_at : (texts : List Text) (bytes : List ℕ) (i size : ℕ) → AllByRecursion HasNoFeed texts → bytes ≡ flat_map spelled texts → i < length texts
    → size ≡ size_of (take i texts) → LineAt texts bytes i size
line_at texts bytes i size free whole within is =
    let text : Text = get_or texts i [] in
    let rest : List Text = drop (suc i) texts in
    let left : drop i texts ≡ text ∷ rest = drop-cons texts i [] within in
    let first : take (i + 1) texts ≡ take i texts ++ text ∷ [] = rw add-one (take-suc texts i [] within) in
    let all : AllByRecursion HasNoFeed (text ∷ rest) = subst (AllByRecursion HasNoFeed) left (free_from texts i free) in
    let bytes_of : flat_map spelled (take i texts ++ text ∷ []) ≡ flat_map spelled (take i texts) ++ spelled text =
    flat_map-append spelled (take i texts) (text ∷ []) ∙ ap (λ b. flat_map spelled (take i texts) ++ b) (append-nil (spelled text)) in
    record {
      text = text;
      rest = rest;
      free = all.0;
      left = left;
      bytes_left = cut_at texts bytes i size whole is ∙ ap (flat_map spelled) left;
      more = ap size_of first ∙ ap length bytes_of ∙ length-append (flat_map spelled (take i texts)) (spelled text) ∙ ap (λ n. n + length (spelled text)) (sym is);
    }

-- What is kept.

pub are_none : AreLines [] 0 0 0
are_none = record { whole = ap (flat_map spelled) none_left; count = ap length none_left; within = omega arith; size = sym (ap (λ ts. size_of (take 0 ts)) none_left) }

-- what was written is within the bytes
pub within_bytes : (bytes : List ℕ) (lines sent written : ℕ) → AreLines bytes lines sent written → written ≤ length bytes
within_bytes bytes lines sent written are =
    let texts = texts_of bytes in
    let parts : length bytes ≡ size_of (take sent texts) + size_of (drop sent texts) =
    ap length (sym are.whole ∙ ap (flat_map spelled) (sym (take-append-drop sent texts)) ∙ flat_map-append spelled (take sent texts) (drop sent texts))
    ∙ length-append (flat_map spelled (take sent texts)) (flat_map spelled (drop sent texts)) in
    let size = are.size in
    omega (arith, parts, size)

pub next_of : (bytes : List ℕ) (lines sent written : ℕ) → AreLines bytes lines sent written → sent < lines → LineAt (texts_of bytes) bytes sent written
next_of bytes lines sent written are below =
    let count = are.count in
    line_at (texts_of bytes) bytes sent written (texts_free bytes) (sym are.whole) (omega (arith, count, below)) are.size

pub texts_put : (bytes : List ℕ) (text : Text) (lines sent written : ℕ) → AreLines bytes lines sent written → HasNoFeed text
    → texts_of (bytes ++ spelled text) ≡ texts_of bytes ++ text ∷ []
texts_put bytes text lines sent written are free =
    ap (λ b. texts_of (b ++ spelled text)) (sym are.whole) ∙ texts_of-lines (texts_of bytes) (spelled text) (texts_free bytes) ∙ ap (λ ts. texts_of bytes ++ ts) (one_text text free)

pub are_put : (bytes : List ℕ) (text : Text) (lines sent written : ℕ) → AreLines bytes lines sent written → HasNoFeed text
    → AreLines (bytes ++ spelled text) (lines + 1) sent written
are_put bytes text lines sent written are free =
    let texts = texts_of bytes in
    let now = texts_put bytes text lines sent written are free in
    let count = are.count in
    let within = are.within in
    record {
      whole = ap (flat_map spelled) now ∙ flat_map-append spelled texts (text ∷ []) ∙ ap (λ b. flat_map spelled texts ++ b) (append-nil (spelled text)) ∙ ap (λ b. b ++ spelled text) are.whole;
      count = ap length now ∙ length-append texts (text ∷ []) ∙ ap (λ n. n + 1) count;
      within = omega (arith, within);
      size = are.size ∙ ap size_of (sym (ap (take sent) now ∙ take-append-le sent texts (text ∷ []) (omega (arith, within, count))));
    }

pub are_written : (bytes : List ℕ) (lines sent written size : ℕ) → AreLines bytes lines sent written → sent < lines
    → (line : List ℕ) → ((text rest : List ℕ) → HasNoFeed text → drop written bytes ≡ spelled text ++ rest → line ≡ spelled text) → size ≡ length line
    → AreLines bytes lines (sent + 1) (written + size)
are_written bytes lines sent written size are below line says long =
    let at = next_of bytes lines sent written are below in
    let is : size ≡ length (spelled at.text) = long ∙ ap length (says at.text (flat_map spelled at.rest) at.free at.bytes_left) in
    record {
      whole = are.whole;
      count = are.count;
      within = omega (arith, below);
      size = ap (λ n. written + n) is ∙ sym at.more;
    }

pub are_begun : (bytes : List ℕ) (lines sent written count size : ℕ) → AreLines bytes lines sent written → count ≤ lines
    → ((texts : List Text) → AllByRecursion HasNoFeed texts → bytes ≡ flat_map spelled texts → count ≤ length texts → size ≡ size_of (take count texts))
    → AreLines bytes lines count size
are_begun bytes lines sent written count size are within says =
    let long = are.count in
    record {
      whole = are.whole;
      count = long;
      within = within;
      size = says (texts_of bytes) (texts_free bytes) (sym are.whole) (omega (arith, long, within));
    }

-- the bytes of the first so many of any lines that they spell
abbrev pub IsSizeOf : List ℕ → ℕ → ℕ → ℕ → Type 0
IsSizeOf bytes most count size = (texts : List Text) → AllByRecursion HasNoFeed texts → bytes ≡ flat_map spelled texts → most ≤ length texts → size ≡ size_of (take count texts)

-- so many of the kept lines have that size
pub size_of_first : (bytes : List ℕ) (lines sent written : ℕ) → AreLines bytes lines sent written → (count size : ℕ) → count ≤ sent
    → (whole : List ℕ) → whole ≡ bytes → IsSizeOf whole count count size → size ≡ size_of (take count (texts_of bytes))
size_of_first bytes lines sent written are count size below whole same says =
    let long = are.count in
    let within = are.within in
    says (texts_of bytes) (texts_free bytes) (same ∙ sym are.whole) (omega (arith, long, within, below))

-- the first lines are dropped
pub texts_dropped : (bytes : List ℕ) (lines sent written : ℕ) → AreLines bytes lines sent written → (more size : ℕ) → size ≡ size_of (take more (texts_of bytes))
    → texts_of (drop size bytes) ≡ drop more (texts_of bytes)
texts_dropped bytes lines sent written are more size is =
    let texts = texts_of bytes in
    ap texts_of (cut_at texts bytes more size (sym are.whole) is) ∙ texts_whole (drop more texts) (free_from texts more (texts_free bytes))

split_size : (texts : List Text) (more sent : ℕ) → more ≤ sent → size_of (take sent texts) ≡ size_of (take more texts) + size_of (take (sent - more) (drop more texts))
split_size texts more sent within =
    let to : sent ≡ more + (sent - more) = omega (arith, within) in
    let two : take sent texts ≡ take more texts ++ take (sent - more) (drop more texts) =
    ap (λ n. take n texts) to
    ∙ sym (take-append-drop more (take (more + (sent - more)) texts))
    ∙ ap (λ l. l ++ drop more (take (more + (sent - more)) texts)) (take-take more (more + (sent - more)) texts (omega arith))
    ∙ ap (λ l. take more texts ++ l) (drop-take more (sent - more) texts) in
    ap size_of two ∙ ap length (flat_map-append spelled (take more texts) (take (sent - more) (drop more texts)))
    ∙ length-append (flat_map spelled (take more texts)) (flat_map spelled (take (sent - more) (drop more texts)))

-- they are among those that were written
pub size_within : (bytes : List ℕ) (lines sent written : ℕ) → AreLines bytes lines sent written → (more size : ℕ) → more ≤ sent → size ≡ size_of (take more (texts_of bytes)) → size ≤ written
size_within bytes lines sent written are more size below is =
    let parts = split_size (texts_of bytes) more sent below in
    let all = are.size in
    omega (arith, parts, all, is)

pub are_dropped : (bytes : List ℕ) (lines sent written : ℕ) → AreLines bytes lines sent written → (more size : ℕ) → more ≤ sent → size ≡ size_of (take more (texts_of bytes))
    → AreLines (drop size bytes) (lines - more) (sent - more) (written - size)
are_dropped bytes lines sent written are more size below is =
    let texts = texts_of bytes in
    let now = texts_dropped bytes lines sent written are more size is in
    let count = are.count in
    let within = are.within in
    let parts = split_size texts more sent below in
    let all = are.size in
    let left : size_of (take (sent - more) (texts_of (drop size bytes))) ≡ size_of (take (sent - more) (drop more texts)) = ap (λ ts. size_of (take (sent - more) ts)) now in
    record {
      whole = ap (flat_map spelled) now ∙ sym (cut_at texts bytes more size (sym are.whole) is);
      count = ap length now ∙ length-drop more texts ∙ ap (λ n. n - more) count;
      within = omega (arith, within);
      size = omega (arith, parts, all, is, left);
    }

-- One line more of the first so many.

pub one_size_more : (bytes : List ℕ) (most count size : ℕ) → IsSizeOf bytes most count size → count < most
    → (line : List ℕ) → ((text rest : List ℕ) → HasNoFeed text → drop size bytes ≡ spelled text ++ rest → line ≡ spelled text)
    → IsSizeOf bytes most (count + 1) (size + length line)
one_size_more bytes most count size so_far below line says texts free whole long =
    let at = line_at texts bytes count size free whole (omega (arith, below, long)) (so_far texts free whole long) in
    ap (λ l. size + length l) (says at.text (flat_map spelled at.rest) at.free at.bytes_left) ∙ sym at.more
