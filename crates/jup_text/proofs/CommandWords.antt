-- Commands have one spelling.
use Rattle.std.proofs.Common.{◌≡◌, ◌≢◌, ℕ, ◌^◌, ◌<◌, List, [], ◌∷◌, ◌++◌, get_or, refl, sym, ap, ◌∙◌, arith, lit<, codes, decimal, drop, Option, Some, None}
use Rattle.std.specs.Str.Parse.{AllDigits}
use Rattle.std.proofs.lemmas.Fmt.{decimal_is_IsNumeral, decimal_injective}
use Rattle.jup_text.specs.Prelude.{IsU32, IsLabelText, Command, Insert, Delete, Relabel, Set, Setting, Value, Char, Label, AllByRecursion, digit_value, IsScalar}
use Rattle.jup_number.specs.Numbers.{IsReadingOf}
use Rattle.jup_text.specs.Words.{quoted, IsWord}
use Rattle.jup_wire.specs.Kinds.{setting_text, IsSetting}
use Rattle.jup_wire.proofs.ByKind.{one_setting}
use Rattle.jup_text.specs.Commands.{command_text, value_text, IsCommand, IsId, IsValue}
use Rattle.jup_text.proofs.Quotes.{same_parts, all_are_read, no_quote_first, label_scalars}

-- A command's text by its first words: its kind, its ids, and what comes after them.

-- ---- words

-- a number is a word
digits_word : (ds : List ℕ) → AllDigits 10 ds → IsWord ds
digits_word [] all = tt
digits_word (d ∷ ds) all = (λ e. absurd (omega (arith, ap digit_value e, all.0)), digits_word ds all.1)

pub number_word : (n : ℕ) → n < 2 ^ 32 → IsWord (decimal n)
number_word n small = digits_word (decimal n) (decimal_is_IsNumeral n (omega (arith, small))).0.1

pub id_word : (id : ℕ) → IsId id → IsWord (decimal id)
id_word id small = number_word id (omega (arith, small))

-- a first word that spells no value of a kind
pub no_first : {A : Type 0} (text : A → List ℕ) (Is : A → Type 0) → ((a : A) → Is a → IsWord (text a))
    → (bytes word rest : List ℕ) → IsWord word → bytes ≡ word ++ 32 ∷ rest → ((a : A) → Is a → word ≢ text a)
    → (a : A) (behind : List ℕ) → Is a → bytes ≢ text a ++ 32 ∷ behind
no_first text Is words bytes word rest is parts none a behind a_is same = none a a_is (same_parts 32 word (text a) rest behind is (words a a_is) (sym parts ∙ same)).0

-- what comes after the first word is not that
pub no_second : (bytes word rest other behind : List ℕ) → IsWord word → IsWord other → bytes ≡ word ++ 32 ∷ rest → rest ≢ behind → bytes ≢ other ++ 32 ∷ behind
no_second bytes word rest other behind is other_is parts none same = none (same_parts 32 word other rest behind is other_is (sym parts ∙ same)).1

-- ---- the parts of a command's text

abbrev pub kind_of : Command → List ℕ
kind_of (Insert win wid place value) = codes "ins"
kind_of (Delete win wid place) = codes "del"
kind_of (Relabel win wid place label) = codes "rel"
kind_of (Set win wid setting) = codes "set"

abbrev pub behind_ids : Command → List ℕ
behind_ids (Insert win wid place value) = decimal place ++ 32 ∷ value_text value
behind_ids (Delete win wid place) = decimal place
behind_ids (Relabel win wid place label) = decimal place ++ 32 ∷ quoted label
behind_ids (Set win wid setting) = setting_text setting

-- a line begins with a word and two ids
pub record HasHead (line kind : List ℕ) (win wid : ℕ) (rest : List ℕ) : Type 0 where
  pub word : IsWord kind
  pub win_in : IsId win
  pub wid_in : IsId wid
  pub spelled : line ≡ kind ++ 32 ∷ (decimal win ++ 32 ∷ (decimal wid ++ 32 ∷ rest))

letters : (a b c : ℕ) → 32 < a → 32 < b → 32 < c → IsWord (a ∷ b ∷ c ∷ [])
letters a b c first second third =
    (λ e. absurd (omega (arith, e, first)), (λ e. absurd (omega (arith, e, second)), (λ e. absurd (omega (arith, e, third)), tt)))

abbrev pub command_win : Command → ℕ
command_win (Insert win wid place value) = win
command_win (Delete win wid place) = win
command_win (Relabel win wid place label) = win
command_win (Set win wid setting) = win

abbrev pub command_wid : Command → ℕ
command_wid (Insert win wid place value) = wid
command_wid (Delete win wid place) = wid
command_wid (Relabel win wid place label) = wid
command_wid (Set win wid setting) = wid

pub command_head : (c : Command) → IsCommand c → HasHead (command_text c) (kind_of c) (command_win c) (command_wid c) (behind_ids c)
command_head (Insert win wid place (Char v)) is = record { word = letters 105 110 115 (lit< tt) (lit< tt) (lit< tt); win_in = is.0; wid_in = is.1.0; spelled = refl }
command_head (Insert win wid place (Label v)) is = record { word = letters 105 110 115 (lit< tt) (lit< tt) (lit< tt); win_in = is.0; wid_in = is.1.0; spelled = refl }
command_head (Delete win wid place) is = record { word = letters 100 101 108 (lit< tt) (lit< tt) (lit< tt); win_in = is.0; wid_in = is.1.0; spelled = refl }
command_head (Relabel win wid place label) is = record { word = letters 114 101 108 (lit< tt) (lit< tt) (lit< tt); win_in = is.0; wid_in = is.1.0; spelled = refl }
command_head (Set win wid setting) is = record { word = letters 115 101 116 (lit< tt) (lit< tt) (lit< tt); win_in = is.0; wid_in = is.1.0; spelled = refl }

-- of two such heads of one line the words are one, and what follows the ids
same_head : (line kind other rest behind : List ℕ) (win wid k l : ℕ) → HasHead line kind win wid rest → HasHead line other k l behind → (kind ≡ other) × (rest ≡ behind)
same_head line kind other rest behind win wid k l h g =
    let first = same_parts 32 kind other _ _ h.word g.word (sym h.spelled ∙ g.spelled) in
    let second = same_parts 32 (decimal win) (decimal k) _ _ (id_word win h.win_in) (id_word k g.win_in) first.1 in
    let third = same_parts 32 (decimal wid) (decimal l) _ _ (id_word wid h.wid_in) (id_word l g.wid_in) second.1 in
    (first.0, third.1)

pub head_same : (line kind rest : List ℕ) (win wid : ℕ) → HasHead line kind win wid rest → (c : Command) → IsCommand c → line ≡ command_text c → (kind ≡ kind_of c) × (rest ≡ behind_ids c)
head_same line kind rest win wid h c is same =
    let g = command_head c is in
    same_head line kind (kind_of c) rest (behind_ids c) win wid (command_win c) (command_wid c) h
    (record { word = g.word; win_in = g.win_in; wid_in = g.wid_in; spelled = same ∙ g.spelled })

-- and the ids
pub head_ids : (c d : Command) → IsCommand c → IsCommand d → command_text c ≡ command_text d → (command_win c ≡ command_win d) × (command_wid c ≡ command_wid d)
head_ids c d c_is d_is same =
    let h = command_head c c_is in
    let g = command_head d d_is in
    let first = same_parts 32 (kind_of c) (kind_of d) _ _ h.word g.word (sym h.spelled ∙ same ∙ g.spelled) in
    let second = same_parts 32 (decimal (command_win c)) (decimal (command_win d)) _ _ (id_word (command_win c) h.win_in) (id_word (command_win d) g.win_in) first.1 in
    let third = same_parts 32 (decimal (command_wid c)) (decimal (command_wid d)) _ _ (id_word (command_wid c) h.wid_in) (id_word (command_wid d) g.wid_in) second.1 in
    let id : (i j : ℕ) → IsId i → IsId j → decimal i ≡ decimal j → i ≡ j = λ i j i_is j_is e. decimal_injective i j (omega (arith, i_is)) (omega (arith, j_is)) e in
    (id (command_win c) (command_win d) h.win_in g.win_in second.0, id (command_wid c) (command_wid d) h.wid_in g.wid_in third.0)

-- ---- lines that are no command

pub no_kind : (line : List ℕ) → ((word rest : List ℕ) → IsWord word → line ≢ word ++ 32 ∷ rest) → (c : Command) → IsCommand c → line ≢ command_text c
no_kind line none c is same = let g = command_head c is in none (kind_of c) _ g.word (same ∙ g.spelled)

pub no_window : (line kind rest : List ℕ) → IsWord kind → line ≡ kind ++ 32 ∷ rest → ((id : ℕ) (behind : List ℕ) → IsId id → rest ≢ decimal id ++ 32 ∷ behind)
    → (c : Command) → IsCommand c → line ≢ command_text c
no_window line kind rest word parts none c is same =
    let g = command_head c is in
    none (command_win c) _ g.win_in (same_parts 32 kind (kind_of c) rest _ word g.word (sym parts ∙ same ∙ g.spelled)).1

pub no_widget : (line kind first rest : List ℕ) (win : ℕ) → IsWord kind → IsId win → line ≡ kind ++ 32 ∷ first → first ≡ decimal win ++ 32 ∷ rest
    → ((id : ℕ) (behind : List ℕ) → IsId id → rest ≢ decimal id ++ 32 ∷ behind) → (c : Command) → IsCommand c → line ≢ command_text c
no_widget line kind first rest win word win_in parts again none c is same =
    let g = command_head c is in
    let second = (same_parts 32 kind (kind_of c) first _ word g.word (sym parts ∙ same ∙ g.spelled)).1 in
    none (command_wid c) _ g.wid_in (same_parts 32 (decimal win) (decimal (command_win c)) rest _ (id_word win win_in) (id_word (command_win c) g.win_in) (sym again ∙ second)).1

pub head_read : (line kind first second rest : List ℕ) (win wid : ℕ) → IsWord kind → IsId win → IsId wid → line ≡ kind ++ 32 ∷ first → first ≡ decimal win ++ 32 ∷ second
    → second ≡ decimal wid ++ 32 ∷ rest → HasHead line kind win wid rest
head_read line kind first second rest win wid word win_in wid_in one two three = record {
  word = word;
  win_in = win_in;
  wid_in = wid_in;
  spelled = one ∙ ap (λ (t : List ℕ). kind ++ 32 ∷ t) (two ∙ ap (λ (t : List ℕ). decimal win ++ 32 ∷ t) three);
}

pub no_insertion : (line rest : List ℕ) (win wid : ℕ) → HasHead line (codes "ins") win wid rest
    → ((place : ℕ) (value : Value) → IsU32 place → IsValue value → rest ≢ decimal place ++ 32 ∷ value_text value) → (c : Command) → IsCommand c → line ≢ command_text c
no_insertion line rest win wid h none (Insert k l place value) is same = none place value is.1.1.0 is.1.1.1 (head_same line _ rest win wid h (Insert k l place value) is same).1
no_insertion line rest win wid h none (Delete k l place) is same = absurd (omega (arith, ap (λ (bs : List ℕ). get_or bs 0 0) (head_same line _ rest win wid h (Delete k l place) is same).0))
no_insertion line rest win wid h none (Relabel k l place label) is same = absurd (omega (arith, ap (λ (bs : List ℕ). get_or bs 0 0) (head_same line _ rest win wid h (Relabel k l place label) is same).0))
no_insertion line rest win wid h none (Set k l setting) is same = absurd (omega (arith, ap (λ (bs : List ℕ). get_or bs 0 0) (head_same line _ rest win wid h (Set k l setting) is same).0))

pub no_deletion : (line rest : List ℕ) (win wid : ℕ) → HasHead line (codes "del") win wid rest
    → ((place : ℕ) → IsU32 place → rest ≢ decimal place) → (c : Command) → IsCommand c → line ≢ command_text c
no_deletion line rest win wid h none (Insert k l place value) is same = absurd (omega (arith, ap (λ (bs : List ℕ). get_or bs 0 0) (head_same line _ rest win wid h (Insert k l place value) is same).0))
no_deletion line rest win wid h none (Delete k l place) is same = none place is.1.1 (head_same line _ rest win wid h (Delete k l place) is same).1
no_deletion line rest win wid h none (Relabel k l place label) is same = absurd (omega (arith, ap (λ (bs : List ℕ). get_or bs 0 0) (head_same line _ rest win wid h (Relabel k l place label) is same).0))
no_deletion line rest win wid h none (Set k l setting) is same = absurd (omega (arith, ap (λ (bs : List ℕ). get_or bs 0 0) (head_same line _ rest win wid h (Set k l setting) is same).0))

pub no_relabel : (line rest : List ℕ) (win wid : ℕ) → HasHead line (codes "rel") win wid rest
    → ((place : ℕ) (label : List ℕ) → IsU32 place → IsLabelText label → rest ≢ decimal place ++ 32 ∷ quoted label) → (c : Command) → IsCommand c → line ≢ command_text c
no_relabel line rest win wid h none (Insert k l place value) is same = absurd (omega (arith, ap (λ (bs : List ℕ). get_or bs 0 0) (head_same line _ rest win wid h (Insert k l place value) is same).0))
no_relabel line rest win wid h none (Delete k l place) is same = absurd (omega (arith, ap (λ (bs : List ℕ). get_or bs 0 0) (head_same line _ rest win wid h (Delete k l place) is same).0))
no_relabel line rest win wid h none (Relabel k l place label) is same = none place label is.1.1.0 is.1.1.1 (head_same line _ rest win wid h (Relabel k l place label) is same).1
no_relabel line rest win wid h none (Set k l setting) is same = absurd (omega (arith, ap (λ (bs : List ℕ). get_or bs 0 0) (head_same line _ rest win wid h (Set k l setting) is same).0))

pub no_setting : (line rest : List ℕ) (win wid : ℕ) → HasHead line (codes "set") win wid rest
    → ((setting : Setting) → IsSetting setting → rest ≢ setting_text setting) → (c : Command) → IsCommand c → line ≢ command_text c
no_setting line rest win wid h none (Insert k l place value) is same = absurd (omega (arith, ap (λ (bs : List ℕ). get_or bs 0 0) (head_same line _ rest win wid h (Insert k l place value) is same).0))
no_setting line rest win wid h none (Delete k l place) is same = absurd (omega (arith, ap (λ (bs : List ℕ). get_or bs 0 0) (head_same line _ rest win wid h (Delete k l place) is same).0))
no_setting line rest win wid h none (Relabel k l place label) is same = absurd (omega (arith, ap (λ (bs : List ℕ). get_or bs 0 0) (head_same line _ rest win wid h (Relabel k l place label) is same).0))
no_setting line rest win wid h none (Set k l setting) is same = none setting is.1.1 (head_same line _ rest win wid h (Set k l setting) is same).1

pub other_kind : (line kind rest : List ℕ) (win wid : ℕ) → HasHead line kind win wid rest → kind ≢ codes "ins" → kind ≢ codes "del" → kind ≢ codes "rel" → kind ≢ codes "set"
    → (c : Command) → IsCommand c → line ≢ command_text c
other_kind line kind rest win wid h ins del rel set (Insert k l place value) is same = ins (head_same line kind rest win wid h (Insert k l place value) is same).0
other_kind line kind rest win wid h ins del rel set (Delete k l place) is same = del (head_same line kind rest win wid h (Delete k l place) is same).0
other_kind line kind rest win wid h ins del rel set (Relabel k l place label) is same = rel (head_same line kind rest win wid h (Relabel k l place label) is same).0
other_kind line kind rest win wid h ins del rel set (Set k l setting) is same = set (head_same line kind rest win wid h (Set k l setting) is same).0

-- ---- values

four_letters : (a b c d : ℕ) → 32 < a → 32 < b → 32 < c → 32 < d → IsWord (a ∷ b ∷ c ∷ d ∷ [])
four_letters a b c d first second third fourth = (λ e. absurd (omega (arith, e, first)), letters b c d second third fourth)

-- a text without a word, or with another word than those of a value
pub no_value : (text : List ℕ) → ((word rest : List ℕ) → IsWord word → text ≢ word ++ 32 ∷ rest) → (value : Value) → IsValue value → text ≢ value_text value
no_value text none (Char c) is same = none (codes "char") _ (four_letters 99 104 97 114 (lit< tt) (lit< tt) (lit< tt) (lit< tt)) same
no_value text none (Label label) is same = none (codes "item") _ (four_letters 105 116 101 109 (lit< tt) (lit< tt) (lit< tt) (lit< tt)) same

pub other_value : (text kind rest : List ℕ) → IsWord kind → text ≡ kind ++ 32 ∷ rest → kind ≢ codes "char" → kind ≢ codes "item" → (value : Value) → IsValue value → text ≢ value_text value
other_value text kind rest word parts char item (Char c) is same =
    char (same_parts 32 kind (codes "char") rest _ word (four_letters 99 104 97 114 (lit< tt) (lit< tt) (lit< tt) (lit< tt)) (sym parts ∙ same)).0
other_value text kind rest word parts char item (Label label) is same =
    item (same_parts 32 kind (codes "item") rest _ word (four_letters 105 116 101 109 (lit< tt) (lit< tt) (lit< tt) (lit< tt)) (sym parts ∙ same)).0

-- No two commands have one text, so that what is read is the command that was written.

-- a text in quotes determines its characters
quoted_injective : (cs ds : List ℕ) → AllByRecursion IsScalar cs → AllByRecursion IsScalar ds → quoted cs ≡ quoted ds → cs ≡ ds
quoted_injective cs ds c_is d_is same =
    sym (all_are_read (quoted cs) cs (34 ∷ []) ds [] (record { spelled = refl; scalars = c_is }) (λ c later is e. no_quote_first c later [] (sym e)) d_is same).0

one_label : (a b : List ℕ) → IsLabelText a → IsLabelText b → quoted a ≡ quoted b → a ≡ b
one_label a b a_is b_is same = quoted_injective a b (label_scalars a a_is) (label_scalars b b_is) same

one_value : (v w : Value) → IsValue v → IsValue w → value_text v ≡ value_text w → v ≡ w
one_value (Char c) (Char d) c_is d_is same =
    let e = quoted_injective (c ∷ []) (d ∷ []) (c_is, tt) (d_is, tt) (ap (λ (bs : List ℕ). drop 5 bs) same) in
    ap Char (ap (λ (bs : List ℕ). get_or bs 0 0) e)
one_value (Char c) (Label l) c_is l_is same = absurd (omega (arith, ap (λ (bs : List ℕ). get_or bs 0 0) same))
one_value (Label l) (Char c) l_is c_is same = absurd (omega (arith, ap (λ (bs : List ℕ). get_or bs 0 0) same))
one_value (Label l) (Label k) l_is k_is same = ap Label (one_label l k l_is k_is (ap (λ (bs : List ℕ). drop 5 bs) same))

-- a place with what comes after it
placed : (p q : ℕ) (r s : List ℕ) → IsU32 p → IsU32 q → decimal p ++ 32 ∷ r ≡ decimal q ++ 32 ∷ s → (p ≡ q) × (r ≡ s)
placed p q r s p_is q_is same =
    let parts = same_parts 32 (decimal p) (decimal q) r s (number_word p p_is) (number_word q q_is) same in
    (decimal_injective p q (omega (arith, p_is)) (omega (arith, q_is)) parts.0, parts.1)

first_byte : List ℕ → ℕ
first_byte bytes = get_or bytes 0 0

one_command : (c d : Command) → IsCommand c → IsCommand d → command_text c ≡ command_text d → c ≡ d
unfolding first_byte
one_command (Insert i j p v) (Insert k l q w) c_is d_is same =
    let ids = head_ids (Insert i j p v) (Insert k l q w) c_is d_is same in
    let rest = (head_same (command_text (Insert i j p v)) _ _ i j (command_head (Insert i j p v) c_is) (Insert k l q w) d_is same).1 in
    let at = placed p q _ _ c_is.1.1.0 d_is.1.1.0 rest in
    let value : v ≡ w = one_value v w c_is.1.1.1 d_is.1.1.1 at.1 in
    let win : i ≡ k = ids.0 in
    let wid : j ≡ l = ids.1 in
    let place : p ≡ q = at.0 in
    cc
one_command (Delete i j p) (Delete k l q) c_is d_is same =
    let ids = head_ids (Delete i j p) (Delete k l q) c_is d_is same in
    let rest = (head_same (command_text (Delete i j p)) _ _ i j (command_head (Delete i j p) c_is) (Delete k l q) d_is same).1 in
    let place : p ≡ q = decimal_injective p q (omega (arith, c_is.1.1)) (omega (arith, d_is.1.1)) rest in
    let win : i ≡ k = ids.0 in
    let wid : j ≡ l = ids.1 in
    cc
one_command (Relabel i j p v) (Relabel k l q w) c_is d_is same =
    let ids = head_ids (Relabel i j p v) (Relabel k l q w) c_is d_is same in
    let rest = (head_same (command_text (Relabel i j p v)) _ _ i j (command_head (Relabel i j p v) c_is) (Relabel k l q w) d_is same).1 in
    let at = placed p q _ _ c_is.1.1.0 d_is.1.1.0 rest in
    let label : v ≡ w = one_label v w c_is.1.1.1 d_is.1.1.1 at.1 in
    let win : i ≡ k = ids.0 in
    let wid : j ≡ l = ids.1 in
    let place : p ≡ q = at.0 in
    cc
one_command (Set i j s) (Set k l t) c_is d_is same =
    let ids = head_ids (Set i j s) (Set k l t) c_is d_is same in
    let rest = (head_same (command_text (Set i j s)) _ _ i j (command_head (Set i j s) c_is) (Set k l t) d_is same).1 in
    let setting : s ≡ t = one_setting s t c_is.1.1 d_is.1.1 rest in
    let win : i ≡ k = ids.0 in
    let wid : j ≡ l = ids.1 in
    cc
one_command (Insert i j p v) (Delete k l q) c_is d_is same = absurd (omega (arith, ap first_byte (head_same (command_text (Insert i j p v)) _ _ i j (command_head (Insert i j p v) c_is) (Delete k l q) d_is same).0))
one_command (Insert i j p v) (Relabel k l q w) c_is d_is same = absurd (omega (arith, ap first_byte (head_same (command_text (Insert i j p v)) _ _ i j (command_head (Insert i j p v) c_is) (Relabel k l q w) d_is same).0))
one_command (Insert i j p v) (Set k l t) c_is d_is same = absurd (omega (arith, ap first_byte (head_same (command_text (Insert i j p v)) _ _ i j (command_head (Insert i j p v) c_is) (Set k l t) d_is same).0))
one_command (Delete i j p) (Insert k l q w) c_is d_is same = absurd (omega (arith, ap first_byte (head_same (command_text (Delete i j p)) _ _ i j (command_head (Delete i j p) c_is) (Insert k l q w) d_is same).0))
one_command (Delete i j p) (Relabel k l q w) c_is d_is same = absurd (omega (arith, ap first_byte (head_same (command_text (Delete i j p)) _ _ i j (command_head (Delete i j p) c_is) (Relabel k l q w) d_is same).0))
one_command (Delete i j p) (Set k l t) c_is d_is same = absurd (omega (arith, ap first_byte (head_same (command_text (Delete i j p)) _ _ i j (command_head (Delete i j p) c_is) (Set k l t) d_is same).0))
one_command (Relabel i j p v) (Insert k l q w) c_is d_is same = absurd (omega (arith, ap first_byte (head_same (command_text (Relabel i j p v)) _ _ i j (command_head (Relabel i j p v) c_is) (Insert k l q w) d_is same).0))
one_command (Relabel i j p v) (Delete k l q) c_is d_is same = absurd (omega (arith, ap first_byte (head_same (command_text (Relabel i j p v)) _ _ i j (command_head (Relabel i j p v) c_is) (Delete k l q) d_is same).0))
one_command (Relabel i j p v) (Set k l t) c_is d_is same = absurd (omega (arith, ap first_byte (head_same (command_text (Relabel i j p v)) _ _ i j (command_head (Relabel i j p v) c_is) (Set k l t) d_is same).0))
one_command (Set i j s) (Insert k l q w) c_is d_is same = absurd (omega (arith, ap first_byte (head_same (command_text (Set i j s)) _ _ i j (command_head (Set i j s) c_is) (Insert k l q w) d_is same).0))
one_command (Set i j s) (Delete k l q) c_is d_is same = absurd (omega (arith, ap first_byte (head_same (command_text (Set i j s)) _ _ i j (command_head (Set i j s) c_is) (Delete k l q) d_is same).0))
one_command (Set i j s) (Relabel k l q w) c_is d_is same = absurd (omega (arith, ap first_byte (head_same (command_text (Set i j s)) _ _ i j (command_head (Set i j s) c_is) (Relabel k l q w) d_is same).0))

-- what is read from a command's text is that command
pub read_again : (line : List ℕ) (r : Option Command) → IsReadingOf command_text IsCommand line r → (c : Command) → IsCommand c → line ≡ command_text c → r ≡ Some c
read_again line None none c is same = absurd (none c is same)
read_again line (Some d) read c is same = ap Some (one_command d c read.0 is (sym read.1 ∙ same))
