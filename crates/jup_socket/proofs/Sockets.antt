-- The bytes and the client of a link.
use Rattle.std.proofs.Common.{◌≡◌, ℕ, List, [], ◌∷◌, ◌++◌, refl, sym, ap, subst, ◌∙◌, map, Option, Some, None, append_assoc, ◌≤◌, ◌<◌, Bool, true, false, length, Ok, inl, inr, if◌then◌else◌, MatchBool, option_to_list, option_map, Result, Err, is_ok}
use Rattle.std.specs.List.{flat_map, AllByRecursion}
use Rattle.std.proofs.lemmas.List.{append-nil, map-append}
use Rattle.std.proofs.lemmas.List.Concat.{flat_map-cons, flat_map-append}
use Rattle.jup_socket.specs.Prelude.{Up, Down, Joined, Line, Said, SaysUp, SaysBye, ClientEnd, NoMemory, Answer, Heard, ClientState}
use Rattle.jup_star.specs.declared.site.Made.{Made}
use Rattle.jup_star.specs.declared.site.Delivered.{Delivered}
use Rattle.jup_star.specs.declared.undelivered.Undelivered.{Undelivered}
use Rattle.jup_star.specs.declared.undelivered.Undelivered.TheVariants.{NoMemory as HandedBack, Fault}
use Rattle.jup_star.specs.declared.faults.SiteFault.TheVariants as site_fault
use Rattle.jup_star.specs.Sites as star_sites
use Rattle.jup_wire.specs.declared.line.Line.TheVariants as line
use Rattle.jup_wire.specs.Lines.{HasSpelling}
use Rattle.jup_wire.proofs.Streams.{all-append, on_the_way}
use Rattle.jup_layout.specs.Drafts.{item_lines, widget_lines, window_lines, board_lines, IsBoard, board_with}
use Rattle.jup_layout.proofs.Boards.{round_trip}
use Rattle.jup_gather.specs.Gathering.{Piece, Message, Alone, piece_lines, all_lines, IsPiece, HasGathered, up_piece, up_in, up_way, down_piece, down_in, down_way, IsSound}
use Rattle.jup_gather.proofs.Gathering.{one_piece}
use Rattle.jup_honest.specs.Sites as sites
use Rattle.jup_honest.proofs.Backlogs.{causal_through}
use Rattle.jup_client.specs.declared.client.Told.TheVariants as told
use Rattle.jup_stream.specs.Saying.{said_piece}
use Rattle.jup_client.specs.Clients as clients
use Rattle.jup_socket.specs.Sockets.{IsWithinBoard, all_said, said_lines, UpSocket, IsLast, greeting, messages_down, written_down, DownSocket, AtSocket, AtSocketThrough, said_of_answer, said_of_heard, IsEditStep, IsDeliverStep}
use Rattle.jup_client.specs.Prelude.{BoardBatch, UpOp, UpAck, UpPing, DownOp, DownAck, DownPong, SiteFault, LayoutFault}
use Rattle.jup_honest.specs.Prelude.{Commands, Windows, board_batches, IsOpening, IsLegal}
use Rattle.jup_batch.specs.Boards.{bare}
use Rattle.jup_site.specs.Prelude.{highest_limit, Item, Name, EditFault, SiteBadOp as BadOp, edit_answer as site_answer, opened_site}
use Rattle.jup_layout.specs.Prelude.{Widget, Text, Labels, Windows as BoardWindows}

-- A greeting is read in one way: the lines of a board have no `ready` among them.

-- all lines of a list of parts
all_parts : {A : Type 0} (P : Line → Type 0) (lines : A → List Line) → ((x : A) → AllByRecursion P (lines x)) → (xs : List A) → AllByRecursion P (flat_map lines xs)
all_parts P lines each [] = tt
all_parts P lines each (x ∷ xs) = all-append P (lines x) (flat_map lines xs) (each x) (all_parts P lines each xs)

all_items : {V : Type 0} (P : Line → Type 0) (line_of : Name → V → Line) → ((n : Name) (v : V) → P (line_of n v)) → (items : List (Item V)) → AllByRecursion P (item_lines line_of items)
all_items P line_of each [] = tt
all_items P line_of each (x ∷ xs) = (each x.name x.value, all_items P line_of each xs)

widget_within : (w : ℕ × Widget) → AllByRecursion IsWithinBoard (widget_lines w)
widget_within (wid, Text x) = (tt, all_items IsWithinBoard line.Char (λ n v. tt) x.items)
widget_within (wid, Labels x) = (tt, all_items IsWithinBoard line.Item (λ n v. tt) x.items)
widget_within (wid, other) = (tt, tt)

pub board_within : (b : BoardWindows) → AllByRecursion IsWithinBoard (board_lines b)
board_within b = all_parts IsWithinBoard window_lines (λ w. (tt, all_parts IsWithinBoard widget_lines widget_within w.1)) b

-- lines up to the first `ready`
pub up_to_ready : (one two x y : List Line) → AllByRecursion IsWithinBoard one → AllByRecursion IsWithinBoard two → one ++ line.Ready ∷ x ≡ two ++ line.Ready ∷ y → (one ≡ two) × (x ≡ y)
up_to_ready [] [] x y all_one all_two e = (refl, cc)
up_to_ready [] (l ∷ two) x y all_one all_two e = absurd (ready_within l (cc) all_two.0)
  where
    ready_within : (l : Line) → line.Ready ≡ l → IsWithinBoard l → ⊥
    ready_within l e is = subst (λ k. IsWithinBoard k) (sym e) is
up_to_ready (l ∷ one) [] x y all_one all_two e = absurd (ready_within l (cc) all_one.0)
  where
    ready_within : (l : Line) → l ≡ line.Ready → IsWithinBoard l → ⊥
    ready_within l e is = subst (λ k. IsWithinBoard k) e is
up_to_ready (l ∷ one) (m ∷ two) x y all_one all_two e =
    let first : l ≡ m = cc in
    let rest = up_to_ready one two x y all_one.1 all_two.1 (cc) in
    (ap (λ k. k ∷ one) first ∙ ap (λ ls. m ∷ ls) rest.0, rest.1)

-- If the first of some lines have come, what they say is the first of what all of them say.

first_of : (p : Piece) (ps : List Piece) (x : List Line) → all_lines (p ∷ ps) ++ x ≡ piece_lines p ++ (all_lines ps ++ x)
first_of p ps x = ap (λ ls. ls ++ x) (flat_map-cons piece_lines p ps) ∙ append_assoc (piece_lines p) (all_lines ps) x

-- a piece has a line
some_line : (p : Piece) (x : List Line) → [] ≡ piece_lines p ++ x → ⊥
some_line (Message m) x e = cc
some_line (Alone line) x e = cc

-- pieces that begin the lines of others are the first of them
pub pieces_first : (qs ps : List Piece) (x : List Line) → AllByRecursion IsPiece qs → AllByRecursion IsPiece ps → all_lines ps ≡ all_lines qs ++ x → (more : List Piece) × (ps ≡ qs ++ more)
pieces_first [] ps x all_q all_p e = (ps, refl)
pieces_first (q ∷ qs) [] x all_q all_p e = absurd (some_line q (all_lines qs ++ x) (e ∙ first_of q qs x))
pieces_first (q ∷ qs) (p ∷ ps) x all_q all_p e =
    let first = one_piece p q (all_lines ps ++ []) (all_lines qs ++ x) all_p.0 all_q.0 (sym (first_of p ps []) ∙ append-nil (all_lines (p ∷ ps)) ∙ e ∙ first_of q qs x) in
    let rest = pieces_first qs ps x all_q.1 all_p.1 (sym (append-nil (all_lines ps)) ∙ first.1) in
    (rest.0, ap (λ p. p ∷ ps) first.0 ∙ ap (λ ps. q ∷ ps) rest.1)

-- so what was gathered of the first of some lines
pub gathered_first : (lines rest : List Line) (qs ps : List Piece) (held : Option (List Line)) → HasGathered lines qs held → AllByRecursion IsPiece ps → all_lines ps ≡ lines ++ rest
    → (more : List Piece) × (ps ≡ qs ++ more)
gathered_first lines rest qs ps (Some part) has all_p e =
    pieces_first qs ps (part ++ rest) has.sound all_p (e ∙ ap (λ ls. ls ++ rest) has.rest.0 ∙ append_assoc (all_lines qs) part rest)
gathered_first lines rest qs ps None has all_p e =
    pieces_first qs ps ((has.rest.part ++ has.rest.line ∷ has.rest.more) ++ rest) has.sound all_p
    (e ∙ ap (λ ls. ls ++ rest) has.rest.come ∙ append_assoc (all_lines qs) (has.rest.part ++ has.rest.line ∷ has.rest.more) rest)

-- the lines of what is mapped to pieces
pub mapped_lines : {A : Type 0} (piece : A → Piece) → (xs : List A) → flat_map (λ x. piece_lines (piece x)) xs ≡ all_lines (map piece xs)
mapped_lines piece [] = refl
mapped_lines piece (x ∷ xs) = flat_map-cons (λ x. piece_lines (piece x)) x xs ∙ ap (λ ls. piece_lines (piece x) ++ ls) (mapped_lines piece xs) ∙ sym (flat_map-cons piece_lines (piece x) (map piece xs))

-- A link whose bytes come in order is reliable.

-- # Lists

-- what holds of all holds of the later
all_later : {A : Type 0} (P : A → Type 0) (xs ys : List A) → AllByRecursion P (xs ++ ys) → AllByRecursion P ys
all_later P [] ys all = all
all_later P (x ∷ xs) ys all = all_later P xs ys all.1

pub all_first : {A : Type 0} (P : A → Type 0) (xs ys : List A) → AllByRecursion P (xs ++ ys) → AllByRecursion P xs
all_first P [] ys all = tt
all_first P (x ∷ xs) ys all = (all.0, all_first P xs ys all.1)

-- the tails of equal lists
tail_of : {A : Type 0} (x y : A) (xs ys : List A) → x ∷ xs ≡ y ∷ ys → xs ≡ ys
tail_of x y xs ys e = cc

head_of : {A : Type 0} (x y : A) (xs ys : List A) → x ∷ xs ≡ y ∷ ys → x ≡ y
head_of x y xs ys e = cc

-- # Up

-- what is spelled is a piece
spelled_piece : (p : Piece) (rest : List Line) → IsSound p → AllByRecursion HasSpelling (piece_lines p ++ rest) → IsPiece p
spelled_piece (Message m) rest sound all = all.0.1.1
spelled_piece (Alone l) rest sound all = sound

said_is_piece : (s : Said) (rest : List Line) → AllByRecursion HasSpelling (piece_lines (said_piece s) ++ rest) → IsPiece (said_piece s)
said_is_piece (SaysUp u) rest all = spelled_piece (up_piece u) rest (up_way u).sound all
said_is_piece SaysBye rest all = refl

saids_are_pieces : (ss : List Said) → AllByRecursion HasSpelling (said_lines ss) → AllByRecursion IsPiece (map said_piece ss)
saids_are_pieces [] all = tt
saids_are_pieces (s ∷ ss) all =
    let split : AllByRecursion HasSpelling (piece_lines (said_piece s) ++ said_lines ss) = subst (AllByRecursion HasSpelling) (flat_map-cons (λ said. piece_lines (said_piece said)) s ss) all in
    (said_is_piece s (said_lines ss) split, saids_are_pieces ss (all_later HasSpelling (piece_lines (said_piece s)) (said_lines ss) split))

-- a message up is known by its lines
same_up : (u v : Up BoardBatch) → up_piece u ≡ up_piece v → u ≡ v
same_up u v e = let same : Some u ≡ Some v = sym (up_way u).again ∙ ap up_in e ∙ (up_way v).again in cc

no_bye : (u : Up BoardBatch) → Alone line.Bye ≡ up_piece u → ⊥
no_bye (UpOp m) e = cc
no_bye (UpAck n) e = cc
no_bye (UpPing k) e = cc

-- messages whose pieces come first among those of a client's come first among them
ups_first : (sent taken : List (Up BoardBatch)) (bye : Bool) (rest : List Piece) → map said_piece (all_said sent bye) ≡ map said_piece (map (λ up. SaysUp up) taken) ++ rest → sites.Begins sent taken
ups_first sent [] bye rest e = (sent, refl)
ups_first [] (t ∷ ts) true rest e = absurd (no_bye t (head_of (Alone line.Bye) (up_piece t) [] _ e))
ups_first [] (t ∷ ts) false rest e = absurd (cc)
ups_first (s ∷ ss) (t ∷ ts) bye rest e =
    let first = same_up s t (head_of (up_piece s) (up_piece t) _ _ e) in
    let later = ups_first ss ts bye rest (tail_of (up_piece s) (up_piece t) _ _ e) in
    (later.0, ap (λ u. u ∷ ss) first ∙ ap (λ us. t ∷ us) later.1)

pub up_reliable : (a : sites.Connection) → UpSocket a → sites.Begins a.sent a.taken
up_reliable a u =
    let saying : List Said = all_said a.sent u.bye in
    let b = u.brought in
    let way = on_the_way b.read u.left (line.Hello ∷ (b.lines ++ b.waiting)) (line.Hello ∷ said_lines saying) b.progress u.spelled b.reads u.bytes in
    let all : said_lines saying ≡ b.lines ++ (b.waiting ++ way.1.0) = tail_of line.Hello line.Hello _ _ way.1.1 ∙ append_assoc b.lines b.waiting way.1.0 in
    let first = gathered_first b.lines (b.waiting ++ way.1.0) (map said_piece b.saids) (map said_piece saying) b.held b.said (saids_are_pieces saying u.spelled.1) (sym (mapped_lines said_piece saying) ∙ all) in
    ups_first a.sent a.taken u.bye (map said_piece b.later ++ first.0)
    (first.1 ∙ ap (λ ss. map said_piece ss ++ first.0) b.takes ∙ ap (λ ps. ps ++ first.0) (map-append said_piece (map (λ up. SaysUp up) a.taken) b.later)
    ∙ append_assoc (map said_piece (map (λ up. SaysUp up) a.taken)) (map said_piece b.later) first.0)

-- # Down

downs_are_pieces : (ds : List (Down BoardBatch)) → AllByRecursion HasSpelling (messages_down ds) → AllByRecursion IsPiece (map down_piece ds)
downs_are_pieces [] all = tt
downs_are_pieces (d ∷ ds) all =
    let split : AllByRecursion HasSpelling (piece_lines (down_piece d) ++ messages_down ds) = subst (AllByRecursion HasSpelling) (flat_map-cons (λ down. piece_lines (down_piece down)) d ds) all in
    (spelled_piece (down_piece d) (messages_down ds) (down_way d).sound split, downs_are_pieces ds (all_later HasSpelling (piece_lines (down_piece d)) (messages_down ds) split))

-- a last line stands alone
last_is_piece : (l : Line) → IsLast l → IsPiece (Alone l)
last_is_piece (line.Batch mine heard count) is = absurd is
last_is_piece (line.Do op) is = absurd is
last_is_piece other is = refl

lasts_are_pieces : (ls : List Line) → AllByRecursion IsLast ls → AllByRecursion IsPiece (map (λ l. Alone l) ls)
lasts_are_pieces [] all = tt
lasts_are_pieces (l ∷ ls) all = (last_is_piece l all.0, lasts_are_pieces ls all.1)

lone_lines : (ls : List Line) → all_lines (map (λ l. Alone l) ls) ≡ ls
lone_lines [] = refl
lone_lines (l ∷ ls) = flat_map-cons piece_lines (Alone l) (map (λ l. Alone l) ls) ∙ ap (λ ks. l ∷ ks) (lone_lines ls)

-- and is no message
no_last : (d : Down BoardBatch) (l : Line) → IsLast l → Alone l ≡ down_piece d → ⊥
no_last (DownOp m) l is e = cc
no_last (DownAck n) l is e = (let same : l ≡ line.Ack n = cc in subst IsLast same is)
no_last (DownPong k) l is e = (let same : l ≡ line.Pong k = cc in subst IsLast same is)

same_down : (d f : Down BoardBatch) → down_piece d ≡ down_piece f → d ≡ f
same_down d f e = let same : Some d ≡ Some f = sym (down_way d).again ∙ ap down_in e ∙ (down_way f).again in cc

downs_first : (fetched handed : List (Down BoardBatch)) (last : List Line) (rest : List Piece) → AllByRecursion IsLast last
    → map down_piece fetched ++ map (λ l. Alone l) last ≡ map down_piece handed ++ rest → sites.Begins fetched handed
downs_first fetched [] last rest ends e = (fetched, refl)
downs_first [] (t ∷ ts) [] rest ends e = absurd (cc)
downs_first [] (t ∷ ts) (l ∷ ls) rest ends e = absurd (no_last t l ends.0 (head_of (Alone l) (down_piece t) _ _ e))
downs_first (d ∷ ds) (t ∷ ts) last rest ends e =
    let first = same_down d t (head_of (down_piece d) (down_piece t) _ _ e) in
    let later = downs_first ds ts last rest ends (tail_of (down_piece d) (down_piece t) _ _ e) in
    (later.0, ap (λ u. u ∷ ds) first ∙ ap (λ us. t ∷ us) later.1)

module _ (answer : Joined) (a : sites.Connection) (d : DownSocket answer a) where
  -- what is left of the lines after those that were read
  rest : List Line
  rest = (on_the_way d.received.read d.left (greeting d.received.site d.received.limit d.received.body ++ (d.received.lines ++ d.received.waiting)) (written_down answer a.fetched d.last) d.received.progress d.spelled d.received.reads d.bytes).1.0

  whole : written_down answer a.fetched d.last ≡ (greeting d.received.site d.received.limit d.received.body ++ (d.received.lines ++ d.received.waiting)) ++ rest
  unfolding rest
  whole = (on_the_way d.received.read d.left (greeting d.received.site d.received.limit d.received.body ++ (d.received.lines ++ d.received.waiting)) (written_down answer a.fetched d.last) d.received.progress d.spelled d.received.reads d.bytes).1.1

  -- after the first line
  behind : board_lines answer.board ++ line.Ready ∷ (messages_down a.fetched ++ d.last) ≡ d.received.body ++ line.Ready ∷ ((d.received.lines ++ d.received.waiting) ++ rest)
  behind =
      sym (append_assoc (board_lines answer.board) (line.Ready ∷ []) (messages_down a.fetched ++ d.last))
      ∙ tail_of (line.Welcome answer.site answer.limit) (line.Welcome d.received.site d.received.limit) _ _ whole
      ∙ append_assoc (d.received.body ++ line.Ready ∷ []) (d.received.lines ++ d.received.waiting) rest
      ∙ append_assoc d.received.body (line.Ready ∷ []) ((d.received.lines ++ d.received.waiting) ++ rest)

  parts : (board_lines answer.board ≡ d.received.body) × (messages_down a.fetched ++ d.last ≡ (d.received.lines ++ d.received.waiting) ++ rest)
  parts = up_to_ready (board_lines answer.board) d.received.body (messages_down a.fetched ++ d.last) ((d.received.lines ++ d.received.waiting) ++ rest) (board_within answer.board) d.received.is_body behind

  pub greeted : (d.received.site ≡ answer.site) × (d.received.limit ≡ answer.limit) × (d.received.body ≡ board_lines answer.board)
  greeted =
      let first : line.Welcome answer.site answer.limit ≡ line.Welcome d.received.site d.received.limit = head_of _ _ _ _ whole in
      (cc, cc, sym parts.0)

  pub opened : IsBoard answer.board → length (board_lines answer.board) < 4294967295 → board_with d.received.body ≡ Ok (bare answer.board)
  opened is short = ap (λ ls. board_with ls) (sym parts.0) ∙ round_trip answer.board is short

  -- the messages
  spelled_down : AllByRecursion HasSpelling (messages_down a.fetched)
  spelled_down = all_first HasSpelling (messages_down a.fetched) d.last
      (all_later HasSpelling (greeting answer.site answer.limit (board_lines answer.board)) (messages_down a.fetched ++ d.last) d.spelled)

  all_pieces : all_lines (map down_piece a.fetched ++ map (λ l. Alone l) d.last) ≡ d.received.lines ++ (d.received.waiting ++ rest)
  all_pieces =
      flat_map-append piece_lines (map down_piece a.fetched) (map (λ l. Alone l) d.last)
      ∙ ap (λ ls. ls ++ all_lines (map (λ l. Alone l) d.last)) (sym (mapped_lines down_piece a.fetched))
      ∙ ap (λ ls. messages_down a.fetched ++ ls) (lone_lines d.last)
      ∙ parts.1 ∙ append_assoc d.received.lines d.received.waiting rest

  pub down_reliable : sites.Begins a.fetched a.handed
  down_reliable =
      let first = gathered_first d.received.lines (d.received.waiting ++ rest) (map down_piece d.received.downs) (map down_piece a.fetched ++ map (λ l. Alone l) d.last) d.received.held d.received.said
      (all-append IsPiece (map down_piece a.fetched) (map (λ l. Alone l) d.last) (downs_are_pieces a.fetched spelled_down) (lasts_are_pieces d.last d.ends)) all_pieces in
      downs_first a.fetched a.handed d.last (map down_piece d.received.later ++ first.0) d.ends
      (first.1 ∙ ap (λ ds. map down_piece ds ++ first.0) d.received.handed ∙ ap (λ ps. ps ++ first.0) (map-append down_piece a.handed d.received.later)
      ∙ append_assoc (map down_piece a.handed) (map down_piece d.received.later) first.0)

-- # Both

pub at_reliable : (answer : Joined) (a : sites.Connection) → AtSocket answer a → sites.IsReliable a
at_reliable answer a s = record { up = up_reliable a s.up; down = down_reliable answer a s.down }

pub through_reliable : (answer : Joined) (ms : List sites.Step) (a : sites.Connection) → AtSocketThrough answer ms a → sites.IsReliableThrough ms a
through_reliable answer [] a s = at_reliable answer a s
through_reliable answer (m ∷ ms) a s = (at_reliable answer a s.0, through_reliable answer ms (sites.after m a) s.1)

pub socket_run : (y : sites.SiteRun) → IsOpening y.board → y.limit ≤ highest_limit → IsLegal (sites.opening y) (sites.calls y) → AtSocketThrough y.answer y.steps (sites.start y) → sites.IsHonest y
socket_run y opens limited legal s = record { opens = opens; limited = limited; legal = legal; reliable = through_reliable y.answer y.steps (sites.start y) s }

pub causal_run : (y : sites.SiteRun) → IsOpening y.board → y.limit ≤ highest_limit → IsLegal (sites.opening y) (sites.calls y) → sites.IsCausalThrough y.steps (sites.start y) → AtSocket y.answer (sites.now y) → sites.IsHonest y
causal_run y opens limited legal causal s =
    record { opens = opens; limited = limited; legal = legal; reliable = causal_through y.steps (sites.start y) causal (at_reliable y.answer (sites.now y) s) }

-- What a client does for an edit and for a message is a step of its site.

-- what the client says of an owed message
said_owed : (owed : Option (Up BoardBatch)) → option_to_list (option_map (λ up. SaysUp up) owed) ≡ map (λ up. SaysUp up) (option_to_list owed)
said_owed None = refl
said_owed (Some up) = refl

pub edit_step : (commands : Commands) (c d : ClientState) (r : Result Answer ClientEnd) → clients.AnswersEdit commands c r d → IsEditStep commands c r d
edit_step commands c d r h = cases h.0 h.1 h.2
  where
    cases : (o : Result Made EditFault) → star_sites.EditAnswers commands c.site d.site o → r ≡ clients.edit_answer o → IsEditStep commands c r d
    cases (Ok made) e is = inr (e.1, ap said_of_answer is ∙ ap (λ m. map (λ up. SaysUp up) (sites.sent_as_made m)) e.0)
    cases (Err fault) e is = go (star_sites.is_edit_memory fault) refl e
      where
        go : (b : Bool) → star_sites.is_edit_memory fault ≡ b → MatchBool b ((d.site ≡ c.site) × (is_ok (site_answer board_batches commands c.site) ≡ true)) ((Err fault ≡ star_sites.edit_reply commands c.site) × (d.site ≡ star_sites.site_edited commands c.site)) → IsEditStep commands c r d
        go true f k = inl (is ∙ ap (λ b. if b then Err NoMemory else Ok (clients.telling (told.Refused fault))) f, k.0)
        go false f k = inr (k.1, ap said_of_answer (is ∙ ap (λ b. if b then Err NoMemory else Ok (clients.telling (told.Refused fault))) f) ∙ ap (λ m. map (λ up. SaysUp up) (sites.sent_as_made m)) k.0)

pub deliver_step : (down : Down BoardBatch) (c d : ClientState) (r : Result Heard ClientEnd) → clients.Delivers down c r d → IsDeliverStep down c r d
deliver_step down c d r h = cases h.0 h.1 h.3
  where
    refused : (fault : SiteFault) → (d.site ≡ star_sites.site_delivered down c.site) → Err fault ≡ star_sites.deliver_reply down c.site → r ≡ clients.heard_answer c.pings down (Err (Fault fault)) → IsDeliverStep down c r d
    refused fault site reply is = inr (site, ap said_of_heard is ∙ ap (λ m. map (λ up. SaysUp up) (sites.sent_as_handed m)) reply)

    cases : (o : Result Delivered Undelivered) → star_sites.DeliverAnswers down c.site d.site (star_sites.owed_of o) → r ≡ clients.heard_answer c.pings down o → IsDeliverStep down c r d
    cases (Ok delivered) e is = inr (e.1, ap said_of_heard is ∙ said_owed (option_map UpAck delivered.owed) ∙ ap (λ m. map (λ up. SaysUp up) (sites.sent_as_handed m)) e.0)
    cases (Err (HandedBack back)) e is = inl (is, e.0)
    cases (Err (Fault site_fault.NoMemory)) e is = inl (is, e.0)
    cases (Err (Fault site_fault.BadCount)) e is = refused site_fault.BadCount e.1 e.0 is
    cases (Err (Fault site_fault.BadAck)) e is = refused site_fault.BadAck e.1 e.0 is
    cases (Err (Fault site_fault.BadName)) e is = refused site_fault.BadName e.1 e.0 is
    cases (Err (Fault BadOp)) e is = refused BadOp e.1 e.0 is
    cases (Err (Fault site_fault.Stopped)) e is = refused site_fault.Stopped e.1 e.0 is

-- as it is opened
pub opened_client : (y : sites.SiteRun) (c : ClientState) → IsBoard y.answer.board → length (board_lines y.answer.board) < 4294967295 → y.answer.board ≡ bare y.answer.board
    → clients.IsOpened y.answer.site y.answer.limit (board_lines y.answer.board) (Ok c) → c.site ≡ (sites.start y).site
opened_client y c is short bared h =
    let windows : h.0 ≡ y.answer.board = same_ok h.0 y.answer.board (board_with (board_lines y.answer.board)) h.1 (round_trip y.answer.board is short ∙ ap (λ b. Ok b) (sym bared)) in
    ap (λ (d : ClientState). d.site) h.3 ∙ ap (λ b. opened_site y.answer.site y.answer.limit b) windows
  where
    same_ok : (a b : Windows) (r : Result Windows LayoutFault) → r ≡ Ok a → r ≡ Ok b → a ≡ b
    same_ok a b r e f = cc
