-- The lines of a printed board.
use Rattle.std.proofs.Common.{◌≡◌, ◌≢◌, ℕ, ◌+◌, ◌^◌, ◌<◌, ◌≤◌, suc, List, [], ◌∷◌, ◌++◌, map, length, Some, None, refl, sym, ap, subst, ◌∙◌, append_assoc, arith, inl, inr, codes, decimal, ◌⊎◌, append-nil, option_map}
use Rattle.std.specs.List.{flat_map, AllByRecursion, join_with_byte}
use Rattle.std.proofs.lemmas.List.{length-append, append_cancel_left}
use Rattle.std.proofs.lemmas.Option.{same_Some}
use Rattle.std.specs.Str.{IsUtf8}
use Rattle.std.proofs.lemmas.List.Concat.{flat_map-append}
use Rattle.jup_board.specs.Prelude.{most_entries, Item, Widget, Text, Labels, Windows, IsId}
use Rattle.jup_window.specs.Entries.{fault_in, widget_fault, at_id, change_at, with_entry}
use Rattle.jup_window.specs.Laws.Entries.{at_id-same}
use Rattle.jup_window.specs.Widgets.{item_count}
use Rattle.jup_text.specs.Boards.{widget_words, widget_line, board_text, Draft, TakesWindow, TakesWidget, IsTaken, AreValues, IsHeld, IsNextWindow, IsNextWidget, IsNext, IsLineOf, IsNumbered}
use Rattle.jup_text.specs.Words.{quoted_char, quoted}
use Rattle.jup_text.proofs.BoardLines.{first_of, same_fronts, window_first, window_word, number_of, join_spaced}
use Rattle.jup_text.proofs.Quotes.{same_parts}
use Rattle.jup_layout.proofs.Drafting.{put-same, put-other, put-length, changed-absent, changed-length}
use Rattle.jup_layout.proofs.Saying.{none_due}
use Rattle.jup_board.specs.Boards.{lines_text, blank, HaveOwnIds, IsPrintableWindow, ArePrintable, Lacks, AreTaken, IsPrinted, IsReadTo}
use Rattle.jup_wire.proofs.Plain.{ArePlain}
use Rattle.jup_board.proofs.Texts.{decimal_word, small_decimal, widget_plain, window_plain, flat_long, char_long, lacks_behind, plain_line, plain_text}

-- The lines of a printed board may come one after another.

-- whatever is made of each line, the next may come
abbrev pub MayFollow : Draft → List (List ℕ) → Type 0
MayFollow draft [] = Unit {0}
MayFollow draft (line ∷ lines) = ArePlain line × (IsNext draft line × ((next : Draft) → IsTaken draft line next → MayFollow next lines))

-- ---- the lines of windows

abbrev pub window_text : ℕ → List ℕ
window_text win = join_with_byte 32 (codes "window" ∷ decimal win ∷ [])

abbrev pub widget_text : ℕ × Widget → List ℕ
widget_text entry = join_with_byte 32 (widget_words entry.0 entry.1)

abbrev pub widgets_then : List (ℕ × Widget) → List (List ℕ) → List (List ℕ)
widgets_then [] more = more
widgets_then (v ∷ vs) more = widget_text v ∷ widgets_then vs more

abbrev pub lines_of : Windows → List (List ℕ)
lines_of [] = []
lines_of (w ∷ ws) = window_text w.0 ∷ widgets_then w.1 (lines_of ws)

widgets_spelled : (vs : List (ℕ × Widget)) (more : List (List ℕ)) → lines_text (widgets_then vs more) ≡ flat_map widget_line vs ++ lines_text more
widgets_spelled [] more = refl
widgets_spelled (v ∷ vs) more =
    ap (λ (t : List ℕ). widget_line v ++ t) (widgets_spelled vs more) ∙ sym (append_assoc (widget_line v) (flat_map widget_line vs) (lines_text more))

pub lines_spelled : (ws : Windows) → lines_text (lines_of ws) ≡ board_text ws
lines_spelled [] = refl
lines_spelled (w ∷ ws) =
    ap (λ (t : List ℕ). (window_text w.0 ++ 10 ∷ []) ++ t) (widgets_spelled w.1 (lines_of ws) ∙ ap (λ (t : List ℕ). flat_map widget_line w.1 ++ t) (lines_spelled ws))
    ∙ sym (append_assoc (window_text w.0 ++ 10 ∷ []) (flat_map widget_line w.1) (board_text ws))

-- how many bytes the lines have
abbrev size : List (List ℕ) → ℕ
size [] = 0
size (line ∷ lines) = length line + size lines

size_within : (lines : List (List ℕ)) → size lines ≤ length (lines_text lines)
size_within [] = omega arith
size_within (line ∷ lines) =
    let behind = size_within lines in
    omega (arith, behind, length-append (line ++ 10 ∷ []) (lines_text lines), length-append line (10 ∷ []))

-- ---- a line is that of one entry

pub no_window : (line : List ℕ) (win wid : ℕ) (widget : Widget) → line ≡ codes "window" ++ 32 ∷ decimal win → IsLineOf line wid widget → ⊥
no_window line win wid widget is widget_is =
    let first = first_of line wid widget widget_is in
    first.other (same_parts 32 first.kind (codes "window") (decimal wid ++ first.behind) (decimal win) first.word window_word (sym first.spelled ∙ is)).0

pub same_window : (win id : ℕ) → IsId id → window_text id ≡ codes "window" ++ 32 ∷ decimal win → win ≡ id
same_window win id small same = small_decimal win id small (sym (append_cancel_left (codes "window ") (decimal id) (decimal win) same))

pub same_widget : (line : List ℕ) (wid id : ℕ) (x y : Widget) → IsId id → IsLineOf line wid x → IsLineOf line id y → wid ≡ id
same_widget line wid id x y small x_is y_is =
    let one = first_of line wid x x_is in
    let two = first_of line id y y_is in
    let behind = (same_parts 32 one.kind two.kind (decimal wid ++ one.behind) (decimal id ++ two.behind) one.word two.word (sym one.spelled ∙ two.spelled)).1 in
    small_decimal wid id small (same_fronts (decimal wid) (decimal id) one.behind two.behind (decimal_word wid) (decimal_word id) one.ends two.ends behind).0

-- ---- items are numbered within the bytes of their lines

numbered_to : (before last : ℕ) (widget : Widget) → IsNumbered before widget last → last ≡ before + item_count widget
numbered_to before last (Text x) are = number_of before last x.items are
numbered_to before last (Labels x) are = number_of before last x.items are
numbered_to before last other are = omega (arith, are)

map_long : {A B : Type 0} (f : A → B) (xs : List A) → length (map f xs) ≡ length xs
map_long f [] = refl
map_long f (x ∷ xs) = ap suc (map_long f xs)

text_long : (wid : ℕ) (widget : Widget) → item_count widget ≤ length (widget_text (wid, widget))
text_long wid (Text x) =
    let chars = flat_long quoted_char char_long (map (λ item. item.value) x.items) in
    let items = map_long (λ (item : Item ℕ). item.value) x.items in
    let quotes = length-append (flat_map quoted_char (map (λ (item : Item ℕ). item.value) x.items)) (34 ∷ []) in
    let words = length-append (decimal wid) (32 ∷ quoted (map (λ (item : Item ℕ). item.value) x.items)) in
    omega (arith, chars, items, quotes, words)
text_long wid (Labels x) =
    let spaced : Item (List ℕ) → List ℕ = λ item. 32 ∷ quoted item.value in
    let labels = flat_long spaced (λ item. omega arith) x.items in
    let words = ap (λ (t : List ℕ). length t) (join_spaced (λ (item : Item (List ℕ)). quoted item.value) (decimal wid) x.items) in
    let whole = length-append (decimal wid) (flat_map spaced x.items) in
    omega (arith, labels, words, whole)
text_long wid other = omega arith

-- the same of a line that spells the widget
line_long : (line : List ℕ) (wid : ℕ) (widget : Widget) → IsLineOf line wid widget → item_count widget ≤ length line
line_long line wid widget is =
    let long = text_long wid widget in
    omega (arith, long, ap (λ (t : List ℕ). length t) is, length-append line (10 ∷ []), length-append (widget_text (wid, widget)) (10 ∷ []))

values_more : {V : Type 0} (IsIn : V → Type 0) (before : ℕ) (values : List V) → AreValues IsIn 0 values → before + length values < 2 ^ 32 → AreValues IsIn before values
values_more IsIn before values are fits = record { each = are.each; short = are.short; numbered = fits }

held_more : (before : ℕ) (widget : Widget) → IsHeld 0 widget → before + item_count widget < 2 ^ 32 → IsHeld before widget
held_more before (Text x) held fits = values_more _ before (map (λ item. item.value) x.items) held (omega (arith, fits, map_long (λ (item : Item ℕ). item.value) x.items))
held_more before (Labels x) held fits = values_more _ before (map (λ item. item.value) x.items) held (omega (arith, fits, map_long (λ (item : Item (List ℕ)). item.value) x.items))
held_more before other held fits = held

-- ---- entries that may be added one by one

-- those that are there have none of the ids, and there is room for all
pub record Pending {A B : Type 0} (there : List (ℕ × A)) (later : List (ℕ × B)) : Type 0 where
  pub absent : AllByRecursion (λ entry. at_id entry.0 there ≡ None) later
  pub room : length there + length later ≤ most_entries

all_pending : {A B : Type 0} (xs ys : List (ℕ × A)) (later : List (ℕ × B)) → ((k : ℕ) → at_id k xs ≡ None → at_id k ys ≡ None)
    → AllByRecursion (λ entry. at_id entry.0 xs ≡ None) later → AllByRecursion (λ entry. at_id entry.0 ys ≡ None) later
all_pending xs ys [] kept all = tt
all_pending xs ys (e ∷ later) kept all = (kept e.0 all.0, all_pending xs ys later kept all.1)

all_put : {A B : Type 0} (k : ℕ) (a : A) (there : List (ℕ × A)) (later : List (ℕ × B)) → AllByRecursion (λ other. other.0 ≢ k) later
    → AllByRecursion (λ entry. at_id entry.0 there ≡ None) later → AllByRecursion (λ entry. at_id entry.0 (with_entry k a there) ≡ None) later
all_put k a there [] others all = tt
all_put k a there (e ∷ later) others all = (put-other k e.0 a there others.0 all.0, all_put k a there later others.1 all.1)

pending_put : {A B : Type 0} (k : ℕ) (a : A) (b : B) (there : List (ℕ × A)) (later : List (ℕ × B)) → AllByRecursion (λ other. other.0 ≢ k) later
    → Pending there ((k, b) ∷ later) → Pending (with_entry k a there) later
pending_put k a b there later others pending =
    let room = pending.room in
    record { absent = all_put k a there later others pending.absent.1; room = omega (arith, room, put-length k a there) }

pending_changed : {A B : Type 0} (k : ℕ) (f : A → A) (there : List (ℕ × A)) (later : List (ℕ × B)) → Pending there later → Pending (change_at k f there) later
pending_changed k f there later pending =
    let room = pending.room in
    record { absent = all_pending there (change_at k f there) later (λ j. changed-absent k j f there) pending.absent; room = omega (arith, room, changed-length k f there) }

-- ---- after the line of a widget

-- a widget more in the window, and its items' numbers
record Added (win wid : ℕ) (held : List (ℕ × Widget)) (ws : Windows) (line : List ℕ) (draft next : Draft) : Type 0 where
  pub widget : Widget
  pub last : next.1 ≡ Some win
  pub there : at_id win next.0 ≡ Some (with_entry wid widget held)
  pub pending : Pending next.0 ws
  pub numbers : next.2 ≤ draft.2 + length line

added : (win wid : ℕ) (widget : Widget) (held : List (ℕ × Widget)) (ws : Windows) (line : List ℕ) (draft next : Draft) → IsId wid → IsLineOf line wid widget → draft.1 ≡ Some win
    → at_id win draft.0 ≡ Some held → Pending draft.0 ws → TakesWidget draft line next → Added win wid held ws line draft next
added win wid widget held ws line draft next id is last there pending taken =
    let in_win : taken.win ≡ win = same_Some taken.win win (sym taken.in_last ∙ last) in
    let same : taken.wid ≡ wid = same_widget line taken.wid wid taken.widget widget id taken.spelled.0 is in
    let board : next.0 ≡ change_at win (with_entry wid taken.widget) draft.0 =
    taken.board ∙ ap (λ k. change_at k (with_entry taken.wid taken.widget) draft.0) in_win ∙ ap (λ k. change_at win (with_entry k taken.widget) draft.0) same in
    let long = line_long line taken.wid taken.widget taken.spelled.0 in
    let count = numbered_to draft.2 next.2 taken.widget taken.spelled.1 in
    record {
      widget = taken.widget;
      last = taken.window ∙ ap (λ (k : ℕ). Some k) in_win;
      there = ap (λ (b : Windows). at_id win b) board ∙ at_id-same win (with_entry wid taken.widget) draft.0 ∙ ap (λ o. option_map (with_entry wid taken.widget) o) there;
      pending = subst (λ (b : Windows). Pending b ws) (sym board) (pending_changed win (with_entry wid taken.widget) draft.0 ws pending);
      numbers = omega (arith, count, long);
    }

-- ---- the lines of a window's widgets, and of windows

module _ (win : ℕ) (ws : Windows) (more : List (List ℕ)) (after : (draft : Draft) → Pending draft.0 ws → draft.2 + size more < 2 ^ 32 → MayFollow draft more) where
  widgets_follow : (vs held : List (ℕ × Widget)) (draft : Draft) → draft.1 ≡ Some win → at_id win draft.0 ≡ Some held → Pending held vs → HaveOwnIds vs → AllByRecursion (λ widget. IsHeld 0 widget.1) vs
      → Pending draft.0 ws → draft.2 + size (widgets_then vs more) < 2 ^ 32 → MayFollow draft (widgets_then vs more)
  widgets_follow [] held draft last there room own widgets pending fits = after draft pending fits
  widgets_follow (v ∷ vs) held draft last there room own widgets pending fits =
      let long = text_long v.0 v.1 in
      let most = room.room in
      let free : widget_fault win v.0 draft.0 ≡ None = ap (λ o. fault_in v.0 o) there ∙ none_due v.0 held own.0 room.absent.0 (omega (arith, most)) in
      let here : IsNextWidget draft (widget_text v) =
      record { win = win; wid = v.0; widget = v.1; in_last = last; id = own.1.0; held = held_more draft.2 v.1 widgets.0 (omega (arith, fits, long)); spelled = refl; allowed = free } in (
        widget_plain v.0 v.1,
        (
          inr here,
          λ next taken. elim taken [
            | inl window ↦ absurd (no_window (widget_text v) window.win v.0 v.1 (window_first (widget_text v) window.win window.spelled) refl)
            | inr widget ↦
                let one = added win v.0 v.1 held ws (widget_text v) draft next own.1.0 refl last there pending widget in
                let numbers = one.numbers in
                widgets_follow vs (with_entry v.0 one.widget held) next one.last one.there (pending_put v.0 one.widget v.1 held vs own.1.1.0 room) own.1.1.1 widgets.1 one.pending (omega (arith, numbers, fits))
          ],
        ),
      )

-- a window more, and no item
record Opened (win : ℕ) (ws : Windows) (draft next : Draft) : Type 0 where
  pub last : next.1 ≡ Some win
  pub there : at_id win next.0 ≡ Some []
  pub pending : Pending next.0 ws
  pub numbers : next.2 ≡ draft.2

opened : (w : ℕ × List (ℕ × Widget)) (ws : Windows) (draft next : Draft) → HaveOwnIds (w ∷ ws) → Pending draft.0 (w ∷ ws) → TakesWindow draft (window_text w.0) next → Opened w.0 ws draft next
opened w ws draft next own pending taken =
    let same : taken.win ≡ w.0 = same_window taken.win w.0 own.1.0 (window_first (window_text w.0) taken.win taken.spelled) in
    let is : next ≡ (with_entry w.0 [] draft.0, Some w.0, draft.2) = taken.taken ∙ ap (λ (k : ℕ). (with_entry k [] draft.0, Some k, draft.2)) same in
    record {
      last = ap (λ (d : Draft). d.1) is;
      there = ap (λ (d : Draft). at_id w.0 d.0) is ∙ put-same w.0 [] draft.0 pending.absent.0;
      pending = subst (λ (d : Draft). Pending d.0 ws) (sym is) (pending_put w.0 [] w.1 draft.0 ws own.1.1.0 pending);
      numbers = ap (λ (d : Draft). d.2) is;
    }

-- a window opens with room for its widgets
none_held : (vs : List (ℕ × Widget)) → length vs ≤ most_entries → Pending {A = Widget} [] vs
none_held vs few = record { absent = absent vs; room = omega (arith, few) }
  where
    absent : (vs : List (ℕ × Widget)) → AllByRecursion (λ entry. at_id {A = Widget} entry.0 [] ≡ None) vs
    absent [] = tt
    absent (v ∷ vs) = (refl, absent vs)

windows_follow : (ws : Windows) (draft : Draft) → HaveOwnIds ws → AllByRecursion IsPrintableWindow ws → Pending draft.0 ws → draft.2 + size (lines_of ws) < 2 ^ 32 → MayFollow draft (lines_of ws)
windows_follow [] draft own windows pending fits = tt
windows_follow (w ∷ ws) draft own windows pending fits =
    let most = pending.room in
    let here : IsNextWindow draft (window_text w.0) =
    record { win = w.0; id = own.1.0; spelled = refl; allowed = none_due w.0 draft.0 own.0 pending.absent.0 (omega (arith, most)) } in (
      window_plain w.0,
      (
        inl here,
        λ next taken. elim taken [
          | inl window ↦
              let one = opened w ws draft next own pending window in
              let numbers = one.numbers in
              widgets_follow w.0 ws (lines_of ws) (λ draft pending fits. windows_follow ws draft own.1.1.1 windows.1 pending fits)
              w.1 [] next one.last one.there (none_held w.1 windows.0.0.1) windows.0.0.0 windows.0.1 one.pending (omega (arith, numbers, fits))
          | inr widget ↦ absurd (no_window (window_text w.0) w.0 widget.wid widget.widget refl widget.spelled.0)
        ],
      ),
    )

-- ---- a whole text

-- what is left is lines that may come one after another
pub record GoesOn (draft : Draft) (rest : List ℕ) : Type 0 where
  pub lines : List (List ℕ)
  pub spelled : rest ≡ lines_text lines
  pub follow : MayFollow draft lines

pub board_goes_on : (windows : Windows) (text : List ℕ) → ArePrintable windows → text ≡ board_text windows → length text < 2 ^ 32 → GoesOn blank text
board_goes_on windows text printable is short =
    let spelled : text ≡ lines_text (lines_of windows) = is ∙ sym (lines_spelled windows) in
    let within = size_within (lines_of windows) in
    let pending : Pending {A = List (ℕ × Widget)} [] windows = record { absent = absent windows; room = omega (arith, printable.0.1) } in
    record {
      lines = lines_of windows;
      spelled = spelled;
      follow = windows_follow windows blank printable.0.0 printable.1 pending (omega (arith, within, short, ap (λ (t : List ℕ). length t) spelled));
    }
  where
    absent : (ws : Windows) → AllByRecursion (λ entry. at_id {A = List (ℕ × Widget)} entry.0 [] ≡ None) ws
    absent [] = tt
    absent (w ∷ ws) = (refl, absent ws)

-- Lines of a board that are taken one after another.

taken_more : (old middle new : Draft) (lines : List (List ℕ)) (line : List ℕ) → AreTaken old lines middle → IsTaken middle line new → AreTaken old (lines ++ line ∷ []) new
taken_more old middle new [] line taken more = (new, subst (λ (d : Draft). IsTaken d line new) (sym taken) more, refl)
taken_more old middle new (x ∷ xs) line (next, first, taken) more = (next, first, taken_more next middle new xs line taken more)

-- what was read of a text, and what is left
pub record Reads (text lines rest : List ℕ) (draft : Draft) : Type 0 where
  pub read : IsReadTo lines rest draft
  pub left : length text < 2 ^ 32 → IsPrinted text → GoesOn draft rest

pub read_none : (text : List ℕ) → IsReadTo text text blank
read_none text = record { lines = []; spelled = refl; taken = refl }

pub read_more : (text rest line later : List ℕ) (old new : Draft) → IsReadTo text rest old → rest ≡ (line ++ 10 ∷ []) ++ later → IsTaken old line new → IsReadTo text later new
read_more text rest line later old new read next more =
    let one : lines_text (read.lines ++ line ∷ []) ≡ lines_text read.lines ++ (line ++ 10 ∷ []) =
    flat_map-append (λ (it : List ℕ). it ++ 10 ∷ []) read.lines (line ∷ []) ∙ ap (λ (t : List ℕ). lines_text read.lines ++ t) (append-nil (line ++ 10 ∷ [])) in
    record {
      lines = read.lines ++ line ∷ [];
      spelled = read.spelled ∙ ap (λ (t : List ℕ). lines_text read.lines ++ t) next ∙ sym (append_assoc (lines_text read.lines) (line ++ 10 ∷ []) later) ∙ ap (λ (t : List ℕ). t ++ later) (sym one);
      taken = taken_more blank old new read.lines line read.taken more;
    }

-- ---- lines of a text

pub uncut_none : (text line rest : List ℕ) → Lacks 10 text → text ≢ line ++ 10 ∷ rest
uncut_none text line rest lacks is = (lacks_behind 10 line (10 ∷ rest) (subst (λ (t : List ℕ). Lacks 10 t) is lacks)).0 refl

pub same_line : (text x y r s : List ℕ) → text ≡ x ++ 10 ∷ r → Lacks 10 x → Lacks 10 y → text ≡ y ++ 10 ∷ s → x ≡ y
same_line text x y r s x_is x_lacks y_lacks y_is = (same_parts 10 x y r s x_lacks y_lacks (sym x_is ∙ y_is)).0

-- ---- if the text is a printed board

-- no line of the text is left, or one that is a text of one line
pub line_left : (draft : Draft) (rest : List ℕ) → GoesOn draft rest → (rest ≡ []) ⊎ ((line later : List ℕ) × Lacks 10 line × IsUtf8 line × (rest ≡ line ++ 10 ∷ later))
line_left draft rest on = go on.lines on.spelled on.follow
  where
    go : (lines : List (List ℕ)) → rest ≡ lines_text lines → MayFollow draft lines → (rest ≡ []) ⊎ ((line later : List ℕ) × Lacks 10 line × IsUtf8 line × (rest ≡ line ++ 10 ∷ later))
    go [] spelled follow = inl spelled
    go (x ∷ xs) spelled follow = inr (x, lines_text xs, plain_line x follow.0, plain_text x follow.0, spelled ∙ append_assoc x (10 ∷ []) (lines_text xs))

-- the line that was read may come next, and then the others
pub next_left : (draft : Draft) (rest line later : List ℕ) → GoesOn draft rest → rest ≡ (line ++ 10 ∷ []) ++ later → Lacks 10 line → IsNext draft line × ((next : Draft) → IsTaken draft line next → GoesOn next later)
next_left draft rest line later on is lacks = go on.lines on.spelled on.follow
  where
    go : (lines : List (List ℕ)) → rest ≡ lines_text lines → MayFollow draft lines → IsNext draft line × ((next : Draft) → IsTaken draft line next → GoesOn next later)
    go [] spelled follow = absurd (omega (arith, ap (λ (t : List ℕ). length t) (sym is ∙ spelled), length-append (line ++ 10 ∷ []) later, length-append line (10 ∷ [])))
    go (x ∷ xs) spelled follow =
        let same = same_parts 10 x line (lines_text xs) later (plain_line x follow.0) lacks (sym (append_assoc x (10 ∷ []) (lines_text xs)) ∙ sym spelled ∙ is ∙ append_assoc line (10 ∷ []) later) in (
          subst (λ (t : List ℕ). IsNext draft t) same.0 follow.1.0,
          λ next taken. record { lines = xs; spelled = sym same.1; follow = follow.1.1 next (subst (λ (t : List ℕ). IsTaken draft t next) (sym same.0) taken) },
        )
