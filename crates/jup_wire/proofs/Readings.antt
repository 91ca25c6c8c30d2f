-- Lines: what is read is what is spelled.
use Rattle.std.proofs.Common.{◌≡◌, ℕ, ◌+◌, cond, List, [], ◌∷◌, ◌++◌, Option, Some, refl, sym, subst, ◌∙◌, arith, inl, inr, lit≤, decimal, codes, ◌≤◌, true, eqb, length, None, ap, lit<, ◌<◌, ◌^◌, ◌-◌, append_assoc, append-nil, ◌/◌, ◌%◌, ℤ, pos, negsuc, unsigned_abs, length-append, to_z, of_z}
use Rattle.std.proofs.lemmas.Bool.{cases_Bool, cond-true, cond-false, eqb-true, eqb-false, ltb-true}
use Rattle.std.proofs.lemmas.Slice.Eq.{bytes_eq-Decides}
use Rattle.std.specs.Global.{Vec}
use Rattle.std.proofs.lemmas.Fmt.{decimal_digit, decimal_step}
use Rattle.std.proofs.lemmas.Int.{to_z-of_z}
use Rattle.std.specs.Int.{w32}
use lib.Signed.{lt_z}
use Rattle.std.specs.Fmt.{digits}
use Rattle.jup_wire.specs.Prelude.{Name, IsLabelText, SeqOp, is_no_relabel, Line, BadLine, BadVersion, join_with_byte, AllByRecursion, bytes_eq, IsScalar, signed_decimal, same_Some, cond_some, none-some}
use Rattle.jup_wire.specs.declared.line.Line.TheVariants.{Hello, Welcome, Window, Text, List as ListLine, Value, Char, Item as ItemLine, Ready, Batch, Do, Ack, Ping, Pong, Bye, Error}
use Rattle.jup_wire.specs.Fields.{name_text, seq_fields, IsU32, IsName, IsInt, ◌>>=◌, split_of, pair_of, number_of, scalar_of, name_of, label_of, insert_of, delete_of, seq_of, IsId, IsCount, id_of, count_of, field_of, after_spaces, dispatch}
use Rattle.jup_wire.specs.Kinds.{IsBody, text_of, body_of, if_no_relabel, IsValueLine, value_table}
use Rattle.jup_wire.specs.Lines.{this_version, line_text, HasSpelling, spelling, hello_of, welcome_of, char_of, item_of, batch_of, do_of, line_table, headed_of, line_of, IsNoLine, IsBad, version_of, refusal_of, BeginsWith, BeginsWithOp, BeginsLines, dispatch_or, value_line}
use Rattle.jup_wire.specs.Streams.{Appends}
use Rattle.jup_wire.proofs.Spellings.{IsReader, pair_reader, behind, number_reader, scalar_reader, label_reader, name_reader, name_field, bind_some, number_takes, number_again, lacks, TakesBehind, id_reader, count_reader, split_parts, field_takes, dispatch_takes, number_field, id_field, word_or}
use Rattle.jup_window.specs.Prelude.{Insert, Delete, Relabel, NoSeqOp as Nothing}
use Rattle.jup_window.specs.declared.kinds.WidgetOp.TheVariants.{Text as OnText}
use Rattle.jup_wire.proofs.ByKind.{body_text, body_reader, joined_do, value_text, values_take, value_again, value_one_line, value_short}

-- ---- what comes after the first word

welcome_rest : IsReader (pair_of 32 number_of number_of) (λ x. decimal x.0 ++ 32 ∷ decimal x.1) (λ x. IsU32 x.0 × IsU32 x.1) 21
welcome_rest = pair_reader 32 number_of decimal IsU32 10 number_reader number_of decimal IsU32 10 number_reader number_field refl

char_rest : IsReader (pair_of 32 name_of scalar_of) (λ x. name_text x.0 ++ 32 ∷ decimal x.1) (λ x. IsName x.0 × IsScalar x.1) 29
char_rest = pair_reader 32 name_of name_text IsName 21 name_reader scalar_of decimal IsScalar 7 scalar_reader name_field refl

item_rest : IsReader (pair_of 32 name_of label_of) (λ x. name_text x.0 ++ 32 ∷ x.1) (λ x. IsName x.0 × IsLabelText x.1) 70
item_rest = pair_reader 32 name_of name_text IsName 21 name_reader label_of (λ label. label) IsLabelText 48 label_reader name_field refl

batch_rest : IsReader (pair_of 32 number_of (pair_of 32 number_of count_of)) (λ x. decimal x.0 ++ 32 ∷ (decimal x.1.0 ++ 32 ∷ decimal x.1.1)) (λ x. IsU32 x.0 × (IsU32 x.1.0 × IsCount x.1.1)) 24
batch_rest =
    let heard = pair_reader 32 number_of decimal IsU32 10 number_reader count_of decimal IsCount 2 count_reader number_field refl in
    pair_reader 32 number_of decimal IsU32 10 number_reader (pair_of 32 number_of count_of) _ _ _ heard number_field refl

do_rest : IsReader (pair_of 32 id_of (pair_of 32 id_of body_of)) (λ x. decimal x.0 ++ 32 ∷ (decimal x.1.0 ++ 32 ∷ body_text x.1.1)) (λ x. IsId x.0 × (IsId x.1.0 × IsBody x.1.1)) 102
do_rest =
    let placed = pair_reader 32 id_of decimal IsId 5 id_reader body_of body_text IsBody 90 body_reader id_field refl in
    pair_reader 32 id_of decimal IsId 5 id_reader (pair_of 32 id_of body_of) _ _ _ placed id_field refl

-- ---- lines

hello_takes : TakesBehind line_text HasSpelling (codes "hello", hello_of)
unfolding hello_of digits
hello_takes rest line e =
    let b = bind_some (number_of rest) (λ version. cond (eqb version this_version) (Some Hello) None) line e in
    let c = cond_some (eqb b.0 this_version) Hello line b.2 in
    let t = number_takes rest b.0 b.1 in
    let spelled : rest ≡ codes "3" = t.1 ∙ ap decimal (eqb-true b.0 this_version c.0) in
    subst (λ l. HasSpelling l × (codes "hello" ++ 32 ∷ rest ≡ line_text l)) c.1 (tt, ap (λ (r : List ℕ). codes "hello" ++ 32 ∷ r) spelled)

-- the line that the word in a table or that of a widget without items gives
dispatch_takes_or : (table : List (List ℕ × (List ℕ → Option Line))) → AllByRecursion (TakesBehind line_text HasSpelling) table
    → (word rest : List ℕ) (l : Line) → dispatch_or table word rest ≡ Some l → HasSpelling l × (word ++ 32 ∷ rest ≡ line_text l)
dispatch_takes_or [] all word rest l e =
    let x = bind_some (dispatch value_table word rest) (λ x. Some (value_line x)) l e in
    let t = dispatch_takes value_text IsValueLine value_table values_take word rest x.0 x.1 in
    subst (λ y. HasSpelling y × (word ++ 32 ∷ rest ≡ line_text y)) (same_Some (value_line x.0) l x.2) (t.0, t.1)
dispatch_takes_or (entry ∷ table) all word rest l e =
    elim (cases_Bool (bytes_eq word entry.0)) [
      | inl same ↦
          let w : word ≡ entry.0 = (bytes_eq-Decides word entry.0).0 same in
          let t = all.0 rest l (sym (cond-true (bytes_eq word entry.0) (entry.1 rest) (dispatch_or table word rest) same) ∙ e) in
          (t.0, ap (λ (v : List ℕ). v ++ 32 ∷ rest) w ∙ t.1)
      | inr other ↦ dispatch_takes_or table all.1 word rest l (sym (cond-false (bytes_eq word entry.0) (entry.1 rest) (dispatch_or table word rest) other) ∙ e)
    ]

headed_takes_or : (table : List (List ℕ × (List ℕ → Option Line))) → AllByRecursion (TakesBehind line_text HasSpelling) table
    → (bytes : List ℕ) (l : Line) → (split_of 32 bytes >>= λ parts. dispatch_or table parts.0 parts.1) ≡ Some l → HasSpelling l × (bytes ≡ line_text l)
headed_takes_or table all bytes l e =
    let p = bind_some (split_of 32 bytes) (λ parts. dispatch_or table parts.0 parts.1) l e in
    let t = dispatch_takes_or table all p.0.0 p.0.1 l p.2 in
    let parts = split_parts 32 bytes p.0.0 p.0.1 p.1 in
    (t.0, parts.0 ∙ t.1)

line_takes : (bytes : List ℕ) (line : Line) → line_of bytes ≡ Some line → HasSpelling line × (bytes ≡ line_text line)
unfolding line_of headed_of welcome_of char_of item_of batch_of do_of
line_takes bytes line e =
    word_or line_text HasSpelling (codes "ready") Ready tt refl _ bytes line
    (word_or line_text HasSpelling (codes "bye") Bye tt refl _ bytes line
    (headed_takes_or line_table (
      hello_takes,
      (
        behind (codes "welcome") (pair_of 32 number_of number_of) _ _ _ welcome_rest (λ x. Welcome x.0 x.1) line_text HasSpelling (λ x is. (is, refl)),
        (
          behind (codes "window") id_of _ _ _ id_reader Window line_text HasSpelling (λ x is. (is, refl)),
          (
            behind (codes "text") id_of _ _ _ id_reader Text line_text HasSpelling (λ x is. (is, refl)),
            (
              behind (codes "list") id_of _ _ _ id_reader ListLine line_text HasSpelling (λ x is. (is, refl)),
              (
                behind (codes "char") (pair_of 32 name_of scalar_of) _ _ _ char_rest (λ x. Char x.0 x.1) line_text HasSpelling (λ x is. (is, refl)),
                (
                  behind (codes "item") (pair_of 32 name_of label_of) _ _ _ item_rest (λ x. ItemLine x.0 x.1) line_text HasSpelling (λ x is. (is, refl)),
                  (
                    behind (codes "batch") (pair_of 32 number_of (pair_of 32 number_of count_of)) _ _ _ batch_rest (λ x. Batch x.0 x.1.0 x.1.1) line_text HasSpelling (λ x is. (is, refl)),
                    (
                      behind (codes "do") (pair_of 32 id_of (pair_of 32 id_of body_of)) _ _ _ do_rest (λ x. Do (record { win = x.0; wid = x.1.0; op = x.1.1 })) line_text HasSpelling (λ x is. (is, sym (joined_do x.0 x.1.0 x.1.1))),
                      (
                        behind (codes "ack") number_of _ _ _ number_reader Ack line_text HasSpelling (λ x is. (is, refl)),
                        (
                          behind (codes "ping") number_of _ _ _ number_reader Ping line_text HasSpelling (λ x is. (is, refl)),
                          (
                            behind (codes "pong") number_of _ _ _ number_reader Pong line_text HasSpelling (λ x is. (is, refl)),
                            (behind (codes "error") number_of _ _ _ number_reader Error line_text HasSpelling (λ x is. (is, refl)), tt),
                          ),
                        ),
                      ),
                    ),
                  ),
                ),
              ),
            ),
          ),
        ),
      ),
    )
    bytes line)) e

this_version_again : number_of (codes "3") ≡ Some 3
unfolding digits
this_version_again = number_again 3 (lit< tt)

line_again : (line : Line) → HasSpelling line → line_of (line_text line) ≡ Some line
unfolding line_of headed_of split_of hello_of welcome_of char_of item_of batch_of do_of
line_again Hello is = rw this_version_again refl
line_again (Welcome site limit) is = rw (welcome_rest.again (site, limit) is) refl
line_again (Window win) is = rw (id_reader.again win is) refl
line_again (Text wid) is = rw (id_reader.again wid is) refl
line_again (ListLine wid) is = rw (id_reader.again wid is) refl
line_again (Value wid value) is = value_again (wid, value) is
line_again (Char name scalar) is = rw (char_rest.again (name, scalar) is) refl
line_again (ItemLine name label) is = rw (item_rest.again (name, label) is) refl
line_again Ready is = refl
line_again (Batch mine heard count) is = rw (batch_rest.again (mine, (heard, count)) is) refl
line_again (Do op) is = ap line_of (joined_do op.win op.wid op.op) ∙ rw (do_rest.again (op.win, (op.wid, op.op)) is) refl
line_again (Ack count) is = rw (number_reader.again count is) refl
line_again (Ping k) is = rw (number_reader.again k is) refl
line_again (Pong k) is = rw (number_reader.again k is) refl
line_again Bye is = refl
line_again (Error number) is = rw (number_reader.again number is) refl

line_one : (line : Line) → HasSpelling line → lacks 10 (line_text line) ≡ true
line_one Hello is = refl
line_one (Welcome site limit) is = welcome_rest.one_line (site, limit) is
line_one (Window win) is = id_reader.one_line win is
line_one (Text wid) is = id_reader.one_line wid is
line_one (ListLine wid) is = id_reader.one_line wid is
line_one (Value wid value) is = value_one_line (wid, value) is
line_one (Char name scalar) is = char_rest.one_line (name, scalar) is
line_one (ItemLine name label) is = item_rest.one_line (name, label) is
line_one Ready is = refl
line_one (Batch mine heard count) is = batch_rest.one_line (mine, (heard, count)) is
line_one (Do op) is = subst (λ (t : List ℕ). lacks 10 t ≡ true) (sym (joined_do op.win op.wid op.op)) (do_rest.one_line (op.win, (op.wid, op.op)) is)
line_one (Ack count) is = number_reader.one_line count is
line_one (Ping k) is = number_reader.one_line k is
line_one (Pong k) is = number_reader.one_line k is
line_one Bye is = refl
line_one (Error number) is = number_reader.one_line number is

line_short : (line : Line) → HasSpelling line → length (line_text line) ≤ 105
line_short Hello is = lit≤ tt
line_short (Welcome site limit) is = omega (arith, welcome_rest.short (site, limit) is)
line_short (Window win) is = omega (arith, id_reader.short win is)
line_short (Text wid) is = omega (arith, id_reader.short wid is)
line_short (ListLine wid) is = omega (arith, id_reader.short wid is)
line_short (Value wid value) is = omega (arith, value_short (wid, value) is)
line_short (Char name scalar) is = omega (arith, char_rest.short (name, scalar) is)
line_short (ItemLine name label) is = omega (arith, item_rest.short (name, label) is)
line_short Ready is = lit≤ tt
line_short (Batch mine heard count) is = omega (arith, batch_rest.short (mine, (heard, count)) is)
line_short (Do op) is = subst (λ (t : List ℕ). length t ≤ 105) (sym (joined_do op.win op.wid op.op)) (omega (arith, do_rest.short (op.win, (op.wid, op.op)) is))
line_short (Ack count) is = omega (arith, number_reader.short count is)
line_short (Ping k) is = omega (arith, number_reader.short k is)
line_short (Pong k) is = omega (arith, number_reader.short k is)
line_short Bye is = lit≤ tt
line_short (Error number) is = omega (arith, number_reader.short number is)

pub line_reader : IsReader line_of line_text HasSpelling 105
line_reader = record { takes = line_takes; again = line_again; one_line = line_one; short = line_short }

-- a batch line is shorter, and its line feed is the 31st byte at most
pub batch_short : (mine heard count : ℕ) → HasSpelling (Batch mine heard count) → length (spelling (Batch mine heard count)) ≤ 31
batch_short mine heard count is =
    let line = length-append (line_text (Batch mine heard count)) (10 ∷ []) in
    omega (arith, line, batch_rest.short (mine, (heard, count)) is)

-- What is wrong with bytes that are no line.

pub version_takes : (bytes : List ℕ) (n : ℕ) → version_of bytes ≡ Some n → (n < 2 ^ 32) × (bytes ≡ codes "hello " ++ decimal n)
unfolding version_of
version_takes bytes n e =
    let p = bind_some (split_of 32 bytes) (λ parts. cond (bytes_eq parts.0 (codes "hello")) (number_of parts.1) None) n e in
    let parts = split_parts 32 bytes p.0.0 p.0.1 p.1 in
    elim (cases_Bool (bytes_eq p.0.0 (codes "hello"))) [
      | inl same ↦
          let word : p.0.0 ≡ codes "hello" = (bytes_eq-Decides p.0.0 (codes "hello")).0 same in
          let t = number_takes p.0.1 n (sym (ap (λ b. cond b (number_of p.0.1) None) same) ∙ p.2) in
          (t.0, parts.0 ∙ ap (λ (w : List ℕ). w ++ 32 ∷ p.0.1) word ∙ ap (λ (r : List ℕ). codes "hello" ++ 32 ∷ r) t.1)
      | inr other ↦ absurd (none-some n (sym (ap (λ b. cond b (number_of p.0.1) None) other) ∙ p.2))
    ]

pub version_again : (n : ℕ) → n < 2 ^ 32 → version_of (codes "hello " ++ decimal n) ≡ Some n
unfolding version_of split_of
version_again n lt = number_again n lt

no_line : (bytes : List ℕ) → line_of bytes ≡ None → IsNoLine bytes
no_line bytes none line is e = none-some line (sym none ∙ ap line_of e ∙ line_reader.again line is)

pub refused : (bytes : List ℕ) (version : Option ℕ) → line_of bytes ≡ None → version ≡ version_of bytes → IsBad (refusal_of version) bytes
refused bytes None none named =
    (no_line bytes none, λ other. none-some other.0 (named ∙ ap version_of other.1.2 ∙ version_again other.0 other.1.0))
refused bytes (Some n) none named =
    elim (cases_Bool (eqb n this_version)) [
      | inl one ↦ subst (λ b. IsBad (cond b BadLine BadVersion) bytes) (sym one) (
        no_line bytes none,
        λ other.
            let same : other.0 ≡ n = same_Some other.0 n (sym (named ∙ ap version_of other.1.2 ∙ version_again other.0 other.1.0)) in
            other.1.1 (same ∙ eqb-true n this_version one),
      )
      | inr differs ↦ subst (λ b. IsBad (cond b BadLine BadVersion) bytes) (sym differs)
          (let t = version_takes bytes n (sym named) in (n, (t.0, eqb-false n this_version differs, t.1)))
    ]

-- what read_line is to say of a line
pub line_found : (bytes : List ℕ) (line : Line) → Some line ≡ line_of bytes → HasSpelling line × (bytes ≡ line_text line)
line_found bytes line e = line_reader.takes bytes line (sym e)

pub line_same : (bytes : List ℕ) (found line : Line) → Some found ≡ line_of bytes → HasSpelling line → bytes ≡ line_text line → found ≡ line
line_same bytes found line e is text = same_Some found line (e ∙ ap line_of text ∙ line_reader.again line is)

pub line_missed : (bytes : List ℕ) (line : Line) → None ≡ line_of bytes → HasSpelling line → bytes ≡ line_text line → ⊥
line_missed bytes line e is text = no_line bytes (sym e) line is text

-- What a line or an operation on a text is that begins with a word that was found.

do_line : (rest : List ℕ) → line_of (codes "do " ++ rest) ≡ do_of rest
unfolding line_of split_of headed_of
do_line rest = refl

batch_line : (rest : List ℕ) → line_of (codes "batch " ++ rest) ≡ batch_of rest
unfolding line_of split_of headed_of
batch_line rest = refl

pub do_headed : (bytes head rest : List ℕ) (r : Option Line) → head ≡ codes "do " → bytes ≡ head ++ rest → r ≡ do_of rest → r ≡ line_of bytes
do_headed bytes head rest r headed is read = read ∙ sym (ap line_of (is ∙ ap (λ t. t ++ rest) headed) ∙ do_line rest)

pub batch_headed : (bytes head rest : List ℕ) (r : Option Line) → head ≡ codes "batch " → bytes ≡ head ++ rest → r ≡ batch_of rest → r ≡ line_of bytes
batch_headed bytes head rest r headed is read = read ∙ sym (ap line_of (is ∙ ap (λ t. t ++ rest) headed) ∙ batch_line rest)

-- what is never a relabel may be done to a text
kept : {X : Type 0} (make : X → SeqOp ℕ) → ((x : X) → is_no_relabel (make x) ≡ true) → (o : Option X) → ((o >>= λ x. Some (make x)) >>= if_no_relabel) ≡ (o >>= λ x. Some (make x))
kept make never None = refl
kept make never (Some x) = cond-true (is_no_relabel (make x)) (Some (make x)) None (never x)

insertion_text : (rest : List ℕ) → text_of (codes "ins " ++ rest) ≡ insert_of scalar_of rest
unfolding text_of seq_of split_of insert_of
insertion_text rest = kept (λ (x : ℕ × (Name × ℕ)). Insert x.0 (record { name = x.1.0; value = x.1.1 })) (λ x. refl) (pair_of 32 number_of (pair_of 32 name_of scalar_of) rest)

deletion_text : (rest : List ℕ) → text_of (codes "del " ++ rest) ≡ delete_of rest
unfolding text_of seq_of split_of delete_of
deletion_text rest = kept (λ (x : ℕ × Name). Delete x.0 x.1) (λ x. refl) (pair_of 32 number_of name_of rest)

pub insertion_headed : (bytes head rest : List ℕ) (r : Option (SeqOp ℕ)) → head ≡ codes "ins " → bytes ≡ head ++ rest → r ≡ insert_of scalar_of rest → r ≡ text_of bytes
insertion_headed bytes head rest r headed is read = read ∙ sym (ap text_of (is ∙ ap (λ t. t ++ rest) headed) ∙ insertion_text rest)

pub deletion_headed : (bytes head rest : List ℕ) (r : Option (SeqOp ℕ)) → head ≡ codes "del " → bytes ≡ head ++ rest → r ≡ delete_of rest → r ≡ text_of bytes
deletion_headed bytes head rest r headed is read = read ∙ sym (ap text_of (is ∙ ap (λ t. t ++ rest) headed) ∙ deletion_text rest)

-- The lines of a message of one operation, put together of what was read of them.

-- what a number or an id says that was read before a separator
pub number_there : (separator : ℕ) (bytes rest : List ℕ) (n : ℕ) → field_of separator number_of bytes ≡ Some (n, rest) → IsU32 n × (bytes ≡ decimal n ++ separator ∷ rest)
number_there separator bytes rest n e = field_takes separator number_of decimal IsU32 10 number_reader bytes (n, rest) e

pub id_there : (bytes rest : List ℕ) (n : ℕ) → field_of 32 id_of bytes ≡ Some (n, rest) → IsId n × (bytes ≡ decimal n ++ 32 ∷ rest)
id_there bytes rest n e = field_takes 32 id_of decimal IsId 5 id_reader bytes (n, rest) e

-- two fields, one after the other
pub two_fields : (bytes first middle second rest : List ℕ) (between behind : ℕ) → bytes ≡ first ++ between ∷ middle → middle ≡ second ++ behind ∷ rest → bytes ≡ (first ++ between ∷ second) ++ behind ∷ rest
two_fields bytes first middle second rest between behind e next = e ∙ ap (λ t. first ++ between ∷ t) next ∙ sym (append_assoc first (between ∷ second) (behind ∷ rest))

-- a line's text, its line feed and the rest
ended : (text rest : List ℕ) → (text ++ 10 ∷ []) ++ rest ≡ text ++ 10 ∷ rest
ended text rest = append_assoc text (10 ∷ []) rest

-- ---- the line of a batch of one

pub batch_there : (bytes head r1 r2 r3 foot rest : List ℕ) (mine heard : ℕ) → head ≡ codes "batch " → foot ≡ codes "1\n" → bytes ≡ head ++ r1
    → IsU32 mine × (r1 ≡ decimal mine ++ 32 ∷ r2) → IsU32 heard × (r2 ≡ decimal heard ++ 32 ∷ r3) → r3 ≡ foot ++ rest → BeginsWith (Batch mine heard 1) rest bytes
unfolding digits
batch_there bytes head r1 r2 r3 foot rest mine heard headed footed e one two last =
    let count : r3 ≡ decimal 1 ++ 10 ∷ rest = last ∙ ap (λ t. t ++ rest) footed in
    let numbers = two_fields r1 (decimal mine) r2 (decimal heard ++ 32 ∷ decimal 1) rest 32 10 one.1 (two_fields r2 (decimal heard) r3 (decimal 1) rest 32 10 two.1 count) in
    ((one.0, (two.0, (omega arith, omega arith))), e ∙ ap (λ t. t ++ r1) headed ∙ ap (λ t. codes "batch " ++ t) numbers ∙ sym (ended (line_text (Batch mine heard 1)) rest))

-- ---- the line of an operation on a text

-- the word of its kind comes before its fields
joined_text : (op : SeqOp ℕ) → join_with_byte 32 (codes "text" ∷ seq_fields decimal op) ≡ codes "text " ++ join_with_byte 32 (seq_fields decimal op)
joined_text (Insert place item) = refl
joined_text (Delete place name) = refl
joined_text (Relabel place name value) = refl
joined_text Nothing = refl

pub operation_there : (bytes head r1 r2 r3 kind r4 rest : List ℕ) (win wid : ℕ) (op : SeqOp ℕ) → head ≡ codes "do " → kind ≡ codes "text " → bytes ≡ head ++ r1
    → IsId win × (r1 ≡ decimal win ++ 32 ∷ r2) → IsId wid × (r2 ≡ decimal wid ++ 32 ∷ r3) → r3 ≡ kind ++ r4 → BeginsWithOp op rest r4 → BeginsWith (Do (record { win = win; wid = wid; op = OnText op })) rest bytes
operation_there bytes head r1 r2 r3 kind r4 rest win wid op headed kinded e one two behind is =
    let text = join_with_byte 32 (codes "text" ∷ seq_fields decimal op) in
    let last : r3 ≡ text ++ 10 ∷ rest = behind ∙ ap (λ t. t ++ r4) kinded ∙ ap (λ t. codes "text " ++ t) is.1 ∙ ap (λ t. t ++ 10 ∷ rest) (sym (joined_text op)) in
    let fields = two_fields r1 (decimal win) r2 (decimal wid ++ 32 ∷ text) rest 32 10 one.1 (two_fields r2 (decimal wid) r3 text rest 32 10 two.1 last) in
    let line = line_text (Do (record { win = win; wid = wid; op = OnText op })) in
    ((one.0, (two.0, is.0)), e ∙ ap (λ t. t ++ r1) headed ∙ ap (λ t. codes "do " ++ t) fields ∙ sym (ended line rest))

-- ---- any line

-- a line that was read from the text before a line feed
pub line_there : (bytes text rest : List ℕ) (found line : Line) → split_of 10 bytes ≡ Some (text, rest) → HasSpelling found × (text ≡ line_text found) → found ≡ line → BeginsWith line rest bytes
line_there bytes text rest found line e read same =
    let is : HasSpelling line × (text ≡ line_text line) = subst (λ l. HasSpelling l × (text ≡ line_text l)) same read in
    (is.0, (split_parts 10 bytes text rest e).0 ∙ ap (λ t. t ++ 10 ∷ rest) is.1 ∙ sym (ended (line_text line) rest))

-- ---- both lines

pub both_lines : (first second : Line) (bytes middle rest : List ℕ) (len : ℕ) → BeginsWith first middle bytes → BeginsWith second rest middle → len ≡ length bytes - length rest → BeginsLines (first ∷ second ∷ []) len bytes
both_lines first second bytes middle rest len one two long =
    let lines : List ℕ = spelling first ++ (spelling second ++ []) in
    let stands : bytes ≡ lines ++ rest =
    one.1 ∙ ap (λ t. spelling first ++ t) (two.1 ∙ ap (λ t. t ++ rest) (sym (append-nil (spelling second)))) ∙ sym (append_assoc (spelling first) (spelling second ++ []) rest) in
    let all : length bytes ≡ length lines + length rest = ap length stands ∙ length-append lines rest in
    record { spelled = (one.0, (two.0, tt)); rest = rest; stands = stands; long = omega (arith, long, all) }

-- what comes after both is no longer than all
pub left_within : (first second : Line) (bytes middle rest : List ℕ) → BeginsWith first middle bytes → BeginsWith second rest middle → length rest ≤ length bytes
left_within first second bytes middle rest one two =
    let all = ap length one.1 ∙ length-append (spelling first) middle in
    let behind = ap length two.1 ∙ length-append (spelling second) rest in
    omega (arith, all, behind)

-- Fields that are written.

pub number_short : (n : ℕ) → n < 2 ^ 32 → length (decimal n) ≤ 10
number_short = number_reader.short

pub id_short : (n : ℕ) → n < 2 ^ 16 → length (decimal n) ≤ 5
id_short = id_reader.short

pub scalar_short : (n : ℕ) → IsScalar n → length (decimal n) ≤ 7
scalar_short = scalar_reader.short

-- a number of one digit
pub one_digit : (n : ℕ) → n < 10 → decimal n ≡ (48 + n) ∷ []
one_digit = decimal_digit

-- a number of more digits
pub more_digits : (n : ℕ) → 10 ≤ n → n < 2 ^ 32 → decimal n ≡ decimal (n / 10) ++ (48 + n % 10) ∷ []
more_digits n le lt = decimal_step n le (omega arith)

pub more_length : (n : ℕ) → 10 ≤ n → n < 2 ^ 32 → length (decimal n) ≡ length (decimal (n / 10)) + 1
more_length n le lt = ap length (more_digits n le lt) ∙ length-append (decimal (n / 10)) ((48 + n % 10) ∷ [])

-- the last two digits
pub two_digits : (n : ℕ) → 10 ≤ n → n < 100 → decimal n ≡ (48 + n / 10) ∷ (48 + n % 10) ∷ []
two_digits n le lt = more_digits n le (omega arith) ∙ ap (λ (t : List ℕ). t ++ (48 + n % 10) ∷ []) (one_digit (n / 10) (omega arith))

pub two_more : (n : ℕ) → 100 ≤ n → n < 2 ^ 32 → decimal n ≡ decimal (n / 100) ++ (48 + n / 10 % 10) ∷ (48 + n % 10) ∷ []
two_more n le lt =
    let hundreds : n / 10 / 10 ≡ n / 100 = omega arith in
    more_digits n (omega arith) lt
    ∙ ap (λ (t : List ℕ). t ++ (48 + n % 10) ∷ []) (more_digits (n / 10) (omega arith) (omega arith) ∙ ap (λ (k : ℕ). decimal k ++ (48 + n / 10 % 10) ∷ []) hundreds)
    ∙ append_assoc (decimal (n / 100)) ((48 + n / 10 % 10) ∷ []) ((48 + n % 10) ∷ [])

pub ruleset decimals = (number_short, id_short, scalar_short, one_digit, more_digits, more_length)

-- one text after another
pub then : (a b c : Vec ℕ) (x y text : List ℕ) (m n most : ℕ) → Appends a b x m → Appends b c y n → x ++ y ≡ text → m + n ≤ most → Appends a c text most
then a b c x y text m n most first second same le = record {
  items = second.items ∙ ap (λ (t : List ℕ). t ++ y) first.items ∙ append_assoc a.items x y ∙ ap (λ (t : List ℕ). a.items ++ t) same;
  len = omega (arith, first.len, second.len);
  capacity = omega (arith, first.capacity, second.capacity);
}

below_zero : (z : ℤ) → lt_z z (pos 0) ≡ true → 45 ∷ decimal (unsigned_abs z) ≡ signed_decimal z
below_zero (pos n) lt = absurd (omega (arith, ltb-true n 0 lt))
below_zero (negsuc n) lt = refl

-- the digits of a negative number's magnitude, as the calls give it
pub minus : (z : ℤ) (n : ℕ) → IsInt z → n ≡ unsigned_abs (to_z w32 (of_z w32 z)) → lt_z (to_z w32 (of_z w32 z)) (pos 0) ≡ true → 45 ∷ decimal n ≡ signed_decimal z
minus z n fits is lt =
    let same = to_z-of_z w32 z fits in
    ap (λ (k : ℕ). 45 ∷ decimal k) (is ∙ ap unsigned_abs same) ∙ below_zero z (ap (λ (y : ℤ). lt_z y (pos 0)) (sym same) ∙ lt)

-- fields with a space between them are the first, and each other after a space
pub joined : (field : List ℕ) (others : List (List ℕ)) → join_with_byte 32 (field ∷ others) ≡ field ++ after_spaces others
joined field [] = sym (append-nil field)
joined field (other ∷ others) = ap (λ (t : List ℕ). field ++ 32 ∷ t) (joined other others)
