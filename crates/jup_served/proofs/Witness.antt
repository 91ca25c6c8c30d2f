-- Two sessions of one hub.
use Rattle.std.proofs.Common.{◌≡◌, inl, inr, ℕ, true, false, List, [], ◌∷◌, ◌++◌, map, Some, None, Ok, refl, sym, ap, subst, ◌∙◌, append-nil, lit≤, count_by, Bool, length, lit<}
use Rattle.jup_served.specs.Prelude as played
use Rattle.jup_batch.specs.Boards.{edit_of}
use Rattle.jup_star.specs.Stars.{BoardLink, reply_of, star_after, opened_counting}
use Rattle.jup_star.specs.Sites.{BoardSite, site_edited}
use Rattle.jup_wire.specs.declared.line.Line.TheVariants.{Bye}
use Rattle.jup_wire.specs.Streams.{IsPart}
use Rattle.jup_gather.specs.Gathering.{IsPiece}
use Rattle.jup_hub.specs.Histories.{Meets, tally, after_split, having_called, with_call}
use Rattle.jup_honest.specs.Sites.{Step, Edit, Deliver, Ping, Called, IsCausalThrough, SiteRun, now, start, AreDrained}
use Rattle.jup_client.specs.declared.client.Told.TheVariants as told
use Rattle.jup_stream.specs.Saying.{said_piece}
use Rattle.jup_rules.specs.Sessions.{says_edit, counted}
use Rattle.jup_socket.specs.Sockets.{said_lines, all_said, written_down}
use Rattle.jup_socket.proofs.Sockets.{mapped_lines}
use Rattle.jup_session.specs.Sessions.{lines_brought, AreFetchesFor, LastLeavesNothing, welcome_lines, AreTakesOf, Stopped, Heard, AreCallsFor, HasLeft}
use Rattle.jup_served.specs.Sessions.{Ended, ServesSite, IsClientRun, IsServedRun, IsSessionHub}
use Rattle.jup_served.proofs.Runs.{lines_spelled}
use Rattle.jup_session.specs.Prelude.{BoardStar, Hello, line_bytes, board_lines, StreamFault, HasHeard, Keeper, HandsOn, Stops}
use Rattle.jup_rules.specs.Prelude.{UpOp, DownOp, DownPong}
use Rattle.jup_honest.specs.Prelude.{Msg, Commands, entry, IsLegal}
use Rattle.jup_star.specs.Prelude.{Server, Toggle as ToggleWidget}
use Rattle.jup_batch.specs.Prelude.{OnToggle as ToggleOp, SetValue as SetCommand}
use Rattle.jup_window.specs.Prelude.{SetTo, NoSetOp as SetNothing}
use Rattle.jup_stream.specs.declared.faults.Stop.TheVariants.{End, Fault}
use Rattle.jup_window.specs.declared.kinds.Setting.TheVariants.{Toggle as ToggleSetting}

-- A session whose client says some messages, all of which are taken, and then closes its way up.

-- a reader of these bytes, of which nothing is read yet that was not handed on
abbrev pub clean : played.Progress
clean = record { part = []; fault = None }

abbrev at_bytes : List ℕ → played.Sourced
at_bytes bytes = record { known = Some bytes; progress = clean; waiting = []; reads = 0 }

pub no_part : IsPart []
no_part = record { short = lit≤ tt; open_ended = played.All-nil _ }

-- whole lines that are read and handed on
pub reads_lines : (before : List ℕ) (old ls : List played.Line) → played.AllByRecursion played.HasSpelling ls → played.HasRead before (old ++ []) clean → played.HasRead (before ++ played.flat_map played.spelling ls) (old ++ (ls ++ [])) clean
reads_lines before old ls spelled read =
    let was : played.HasRead before old clean = subst (λ l. played.HasRead before l clean) (append-nil old) read in
    record {
      spelled = subst (λ l. played.AllByRecursion played.HasSpelling (old ++ l)) (sym (append-nil ls)) (played.all-append played.HasSpelling old ls was.spelled spelled);
      rest = (
        ap (λ bs. bs ++ played.flat_map played.spelling ls) (was.rest.0 ∙ append-nil (played.flat_map played.spelling old))
            ∙ sym (played.flat_map-append played.spelling old ls) ∙ ap (λ l. played.flat_map played.spelling (old ++ l)) (sym (append-nil ls)) ∙ sym (append-nil (played.flat_map played.spelling (old ++ (ls ++ [])))),
        was.rest.1,
      );
    }

abbrev hands_lines : (ls : List played.Line) (rest : List ℕ) → played.AllByRecursion played.HasSpelling ls → HandsOn (at_bytes (played.flat_map played.spelling ls ++ rest)) ls (at_bytes rest)
hands_lines ls rest spelled = record { bytes = played.flat_map played.spelling ls; consumed = refl; counted = lit≤ tt; goes_on = λ before old read. reads_lines before old ls spelled read }

-- the end of the bytes
abbrev at_end : Stops (at_bytes []) End (at_bytes [])
at_end = record {
  middle = Some [];
  reads = record { bytes = []; consumed = refl; counted = lit≤ tt; goes_on = λ before lines read. subst (λ bs. played.HasRead bs (lines ++ []) clean) (sym (append-nil before)) read };
  lost = [];
  consumed = refl;
  none = refl;
  why = (refl, refl, refl);
}

-- which is no fault
pub no_fault : (fault : StreamFault) → End ≡ Fault fault → ⊥
no_fault fault e = cc

-- what was heard by the lines of messages
pub heard_by : (saids : List played.Said) → played.AllByRecursion IsPiece (map said_piece saids) → HasHeard (said_lines saids) saids (Some [], counted (count_by says_edit saids))
heard_by saids pieces = (record { sound = pieces; rest = (mapped_lines said_piece saids ∙ sym (append-nil _), played.at_first.rest.1) }, refl)

-- What makes such a session. It has the star as the hub was opened, the number of the session's pass, the answer to its join, and the
-- history before that. Then the messages that its client says, the calls that take them, those that fetch, and the answer to the leave
pub record Plan : Type 0 where
  pub opening : BoardStar
  pub number : List ℕ
  pub joined : played.Joined
  pub before : List played.HubEvent
  pub ups : List (played.Up played.BoardBatch)
  pub takes : List played.HubEvent
  pub fetches : List played.HubEvent
  pub left : played.StarReply

module _ (p : Plan) where
  abbrev pub answer : played.Joined
  answer = record p.joined { board = played.bare p.joined.board }

  abbrev pub given : played.View
  given = record { opening = p.opening; is_live = true; turn = None; number = p.number; splits = 0; seen = [] ∷ []; made = []; kept = [] }

  abbrev pub join : played.HubEvent
  join = entry p.number played.Join (played.JoinedReply (Ok answer))

  abbrev pub behind : played.View
  behind = having_called p.before played.Join (played.JoinedReply (Ok answer)) given

  abbrev pub leave : played.HubEvent
  leave = entry (0 ∷ p.number) (played.Leave p.joined.site) p.left

  abbrev pub read : played.View
  read = record (after_split behind) { made = behind.made ++ p.takes }

  abbrev pub back : played.View
  back = record read { kept = tally (0 ∷ p.number) (p.fetches ++ leave ∷ []) ∷ [] }

  abbrev pub saids : List played.Said
  saids = map (λ up. played.SaysUp up) p.ups

  abbrev pub lines : List played.Line
  lines = welcome_lines p.joined ++ (lines_brought p.fetches ++ played.last_line played.Gone ∷ [])

  -- what has to hold of it
  pub record IsPlain : Type 0 where
    pub meets : Meets behind (with_call p.before given played.Join (played.JoinedReply (Ok answer)))
    pub spelled : played.AllByRecursion played.HasSpelling (said_lines saids)
    pub pieces : played.AllByRecursion IsPiece (map said_piece saids)
    pub takes : AreTakesOf p.joined.site saids p.takes
    pub fetches : AreFetchesFor p.joined.site p.fetches
    pub last : LastLeavesNothing p.fetches
    pub reading : AreCallsFor p.joined.site p.takes
    pub writing : AreCallsFor p.joined.site (p.fetches ++ leave ∷ [])
    pub leaves : HasLeft (p.fetches ++ leave ∷ [])

  module _ (is : IsPlain) where
    abbrev first_bytes : List ℕ
    first_bytes = played.flat_map played.spelling (Hello ∷ [])

    abbrev later_bytes : List ℕ
    later_bytes = played.flat_map played.spelling (said_lines saids)

    abbrev first_source : played.Sourced
    first_source = at_bytes (first_bytes ++ (later_bytes ++ []))

    abbrev keeper : Keeper
    keeper = (Some [], counted (count_by says_edit saids))

    abbrev hears : Heard p.joined.site (at_bytes (later_bytes ++ [])) (after_split behind) (at_bytes []) read played.Gone None
    hears = inl (record {
      before = at_bytes [];
      pass = read;
      keeper = keeper;
      hears = record {
        lines = said_lines saids;
        saids = saids;
        calls = p.takes;
        handed = hands_lines (said_lines saids) [] is.spelled;
        heard = heard_by saids is.pieces;
        number = refl;
        made = refl;
        kept = refl;
        takes = is.takes;
      };
      over = Stopped End at_end refl (record { early = λ e part. absurd (part refl); gone = λ e f. refl; fault = λ fault e. absurd (no_fault fault e) }) refl;
    })

    abbrev served : played.IsServed first_source given back played.Gone false played.all_done lines
    served = record {
      site = p.joined.site;
      greeted = at_bytes (later_bytes ++ []);
      behind = behind;
      first = welcome_lines p.joined;
      later = lines_brought p.fetches ++ played.last_line played.Gone ∷ [];
      welcomed = record {
        hello = hands_lines (Hello ∷ []) (later_bytes ++ []) (tt, tt);
        joined = p.joined;
        site_is = refl;
        enters = record { before = p.before; begins = ((p.before, refl), tt); view = refl; meets = is.meets };
        lines_are = refl;
      };
      halves = record {
        last = at_bytes [];
        heard = played.Gone;
        read = read;
        hears = hears;
        told = None;
        fault = tt;
        ending_is = refl;
        fetches = p.fetches;
        back = [];
        leaves = leave ∷ [];
        made = refl;
        kept = refl;
        alone = is.fetches;
        all = is.last;
        gives_back = tt;
        departs = (refl, tt);
        lines_are = refl;
      };
      lines_are = refl;
    }

    abbrev fresh : played.IsFresh (Some (first_bytes ++ (later_bytes ++ []))) first_source
    fresh = record { known = refl; read = record { spelled = tt; rest = (refl, no_part) }; waiting = refl; reads = refl }

    abbrev pub plain : Ended
    plain = record {
      from = Some (first_bytes ++ (later_bytes ++ []));
      old = Some [];
      new = Some (played.flat_map line_bytes lines);
      given = given;
      back = back;
      ending = played.Gone;
      failed = false;
      undone = played.all_done;
      calls = record {
        calls = join ∷ p.takes;
        others = tally (0 ∷ p.number) (p.fetches ++ leave ∷ []) ∷ [];
        number = refl;
        made = refl;
        kept = refl;
        one_site = (is.reading, (is.writing, tt), inr (inr (inl is.leaves)));
      };
      exact = record {
        lines = lines;
        has_lines = played.Served first_source fresh served;
        wrote = (played.flat_map line_bytes lines, [], sym (append-nil (played.flat_map line_bytes lines)), refl, λ whole. refl);
      };
    }

    abbrev pub plain_serves : ServesSite plain
    plain_serves = record { start = first_source; fresh = fresh; served = served; is = refl }

    -- its client wrote all that it read
    pub wrote_all : (played.bytes_read plain.exact) ++ [] ≡ played.flat_map played.spelling (Hello ∷ said_lines (all_said (p.ups ++ []) false))
    wrote_all = append-nil (first_bytes ++ (later_bytes ++ [])) ∙ ap (λ bs. first_bytes ++ bs) (append-nil later_bytes)
        ∙ sym (played.flat_map-append played.spelling (Hello ∷ []) (said_lines saids))
        ∙ ap (λ us. played.flat_map played.spelling (Hello ∷ said_lines us)) (ap (λ us. map (λ up. played.SaysUp up) us) (sym (append-nil p.ups)) ∙ sym (append-nil (map (λ up. played.SaysUp up) (p.ups ++ []))))

    -- and reads all that it wrote
    pub read_all : played.AllByRecursion played.HasSpelling lines → played.HasRead (played.flat_map line_bytes lines) lines clean
    read_all spelled = record { spelled = spelled; rest = (lines_spelled lines spelled ∙ sym (append-nil (played.flat_map played.spelling lines)), no_part) }

-- Two sessions of one hub: each client sets the toggle once, at the same time, and pings. Then both sites leave.

-- one window with one toggle
abbrev pub board : played.Windows
board = (1, (1, ToggleWidget (record { on = false })) ∷ []) ∷ []

-- an operation that switches it
abbrev switch : Bool → played.BoardBatch
switch on = record { win = 1; wid = 1; op = ToggleOp (SetTo on) } ∷ []

abbrev nothing : played.BoardBatch
nothing = record { win = 1; wid = 1; op = ToggleOp SetNothing } ∷ []

abbrev message : ℕ → ℕ → played.BoardBatch → Msg played.BoardBatch
message mine heard op = record { mine = mine; heard = heard; op = op }

abbrev command : Bool → Commands
command on = SetCommand 1 1 (ToggleSetting on) ∷ []

abbrev pub joined : ℕ → played.Joined
joined i = record { site = i; limit = 9; board = board }

abbrev star : BoardStar
star = opened_counting board 9

-- the numbers of the passes of both sessions, and of their writing halves
abbrev one : List ℕ
one = 0 ∷ []

abbrev two : List ℕ
two = 1 ∷ []

-- the calls
abbrev join_one : played.HubEvent
join_one = entry one played.Join (played.JoinedReply (Ok (joined 1)))

abbrev join_two : played.HubEvent
join_two = entry two played.Join (played.JoinedReply (Ok (joined 2)))

abbrev edit_two : played.HubEvent
edit_two = entry two (played.Take 2 (UpOp (message 0 0 (switch false)))) (played.Taken (Ok (Some 0)))

abbrev edit_one : played.HubEvent
edit_one = entry one (played.Take 1 (UpOp (message 0 0 (switch true)))) (played.Taken (Ok (Some 1)))

abbrev ping_one : played.HubEvent
ping_one = entry one (played.Take 1 (played.UpPing 7)) (played.Taken (Ok None))

abbrev pub downs_one : List (played.Down played.BoardBatch)
downs_one = DownOp (message 0 0 (switch false)) ∷ DownPong 7 ∷ []

abbrev fetch_one : played.HubEvent
fetch_one = entry (0 ∷ one) (played.Fetch 1 64) (played.Fetched (Ok downs_one))

abbrev pub downs_two : List (played.Down played.BoardBatch)
downs_two = DownOp (message 0 1 (switch true)) ∷ []

abbrev fetch_two : played.HubEvent
fetch_two = entry (0 ∷ two) (played.Fetch 2 64) (played.Fetched (Ok downs_two))

abbrev leave_one : played.HubEvent
leave_one = entry (0 ∷ one) (played.Leave 1) (played.Left (Ok tt))

abbrev leave_two : played.HubEvent
leave_two = entry (0 ∷ two) (played.Leave 2) (played.Left (Ok tt))

abbrev later : List played.HubEvent
later = edit_two ∷ edit_one ∷ ping_one ∷ fetch_one ∷ fetch_two ∷ leave_one ∷ leave_two ∷ []

abbrev pub log : List played.HubEvent
log = join_one ∷ join_two ∷ later

-- # The runs

abbrev steps_one : List Step
steps_one =
    Called join_two ∷ Edit (command true) ∷ Ping 7 ∷ Called edit_two ∷ Called edit_one ∷ Called ping_one ∷ Called fetch_one
    ∷ Deliver (DownOp (message 0 0 (switch false))) ∷ Deliver (DownPong 7) ∷ Called fetch_two ∷ []

abbrev pub run_one : SiteRun
run_one = record { board = board; limit = 9; keeps = false; before = []; by = one; answer = joined 1; steps = steps_one }

abbrev pub steps_two : List Step
steps_two =
    Edit (command false) ∷ Called edit_two ∷ Called edit_one ∷ Called ping_one ∷ Called fetch_one ∷ Called fetch_two
    ∷ Deliver (DownOp (message 0 1 (switch true))) ∷ []

abbrev pub run_two : SiteRun
run_two = record { board = board; limit = 9; keeps = false; before = join_one ∷ []; by = two; answer = joined 2; steps = steps_two }

legal : IsLegal star log
unfolding reply_of star_after
legal = (refl, (refl, (refl, (refl, (refl, (refl, (refl, (refl, (refl, tt)))))))))

opens : played.IsOpening board
opens = record { distinct = ((tt, tt), tt); unsigned = refl; short = ((tt, tt), tt) }

-- # The sessions

abbrev pub ups_one : List (played.Up played.BoardBatch)
ups_one = UpOp (message 0 0 (switch true)) ∷ played.UpPing 7 ∷ []

abbrev pub ups_two : List (played.Up played.BoardBatch)
ups_two = UpOp (message 0 0 (switch false)) ∷ []

abbrev plan_one : Plan
plan_one = record {
  opening = star;
  number = one;
  joined = joined 1;
  before = [];
  ups = ups_one;
  takes = edit_one ∷ ping_one ∷ [];
  fetches = fetch_one ∷ [];
  left = played.Left (Ok tt);
}

abbrev plan_two : Plan
plan_two = record {
  opening = star;
  number = two;
  joined = joined 2;
  before = join_one ∷ [];
  ups = ups_two;
  takes = edit_two ∷ [];
  fetches = fetch_two ∷ [];
  left = played.Left (Ok tt);
}

is_plain_one : IsPlain plan_one
unfolding reply_of star_after
is_plain_one = record {
  meets = record { legal = (refl, tt); begins = (([], refl), tt); tallied = (refl, tt); apart = (tt, tt) };
  spelled = ((lit< tt, (lit< tt, (lit≤ tt, lit≤ tt))), ((lit< tt, (lit< tt, tt)), (lit< tt, tt)));
  pieces = ((lit≤ tt, lit≤ tt), (refl, tt));
  takes = (refl, tt, (refl, tt, tt));
  fetches = ((refl, refl), tt);
  last = lit< tt;
  reading = (refl, (refl, tt));
  writing = (refl, (refl, tt));
  leaves = inr (inl tt);
}

is_plain_two : IsPlain plan_two
unfolding reply_of star_after
is_plain_two = record {
  meets = record { legal = (refl, (refl, tt)); begins = (([], refl), tt); tallied = (refl, tt); apart = (tt, tt) };
  spelled = ((lit< tt, (lit< tt, (lit≤ tt, lit≤ tt))), ((lit< tt, (lit< tt, tt)), tt));
  pieces = ((lit≤ tt, lit≤ tt), tt);
  takes = (refl, tt, tt);
  fetches = ((refl, refl), tt);
  last = lit< tt;
  reading = (refl, tt);
  writing = (refl, (refl, tt));
  leaves = inr (inl tt);
}

pub session_one : Ended
session_one = plain plan_one is_plain_one

pub session_two : Ended
session_two = plain plan_two is_plain_two

-- their lines
spelled_one : played.AllByRecursion played.HasSpelling (lines plan_one)
spelled_one = ((lit< tt, lit< tt), (lit< tt, ((lit< tt, tt), (tt, ((lit< tt, (lit< tt, (lit≤ tt, lit≤ tt))), ((lit< tt, (lit< tt, tt)), (lit< tt, (tt, tt))))))))

spelled_two : played.AllByRecursion played.HasSpelling (lines plan_two)
spelled_two = ((lit< tt, lit< tt), (lit< tt, ((lit< tt, tt), (tt, ((lit< tt, (lit< tt, (lit≤ tt, lit≤ tt))), ((lit< tt, (lit< tt, tt)), (tt, tt)))))))

-- and their bytes
pub read_one : played.bytes_read session_one.exact ++ [] ≡ played.flat_map played.spelling (Hello ∷ said_lines (all_said (ups_one ++ []) false))
unfolding session_one
read_one = wrote_all plan_one is_plain_one

pub read_two : played.bytes_read session_two.exact ++ [] ≡ played.flat_map played.spelling (Hello ∷ said_lines (all_said (ups_two ++ []) false))
unfolding session_two
read_two = wrote_all plan_two is_plain_two

pub written_one : played.bytes_written session_one.exact ≡ played.flat_map played.spelling (written_down (joined 1) downs_one (Bye ∷ []))
unfolding session_one
written_one = lines_spelled (lines plan_one) spelled_one

pub written_two : played.bytes_written session_two.exact ≡ played.flat_map played.spelling (written_down (joined 2) downs_two (Bye ∷ []))
unfolding session_two
written_two = lines_spelled (lines plan_two) spelled_two

pub hub : IsSessionHub false board 9 (session_one ∷ session_two ∷ []) log
unfolding session_one session_two
hub = record {
  opens = opens;
  limited = lit≤ tt;
  legal = legal;
  new = ((refl, refl), ((refl, refl), tt));
  tallied = (refl, (refl, (refl, (refl, tt))));
  apart = (((λ e. cc), ((λ e. cc), ((λ e. cc), tt))), (((λ e. cc), ((λ e. cc), tt)), (((λ e. cc), tt), (tt, tt))));
  alone = refl;
}

-- # The ends of both links

causal_one : IsCausalThrough steps_one (start run_one)
unfolding star_after
causal_one = (record { up = lit≤ tt; down = lit≤ tt }, (record { up = lit≤ tt; down = lit≤ tt }, (record { up = lit≤ tt; down = lit≤ tt }, (record { up = lit≤ tt; down = lit≤ tt }, (record { up = lit≤ tt; down = lit≤ tt }, (record { up = lit≤ tt; down = lit≤ tt }, (record { up = lit≤ tt; down = lit≤ tt }, (record { up = lit≤ tt; down = lit≤ tt }, (record { up = lit≤ tt; down = lit≤ tt }, (record { up = lit≤ tt; down = lit≤ tt }, record { up = lit≤ tt; down = lit≤ tt }))))))))))

causal_two : IsCausalThrough steps_two (start run_two)
unfolding star_after
causal_two = (record { up = lit≤ tt; down = lit≤ tt }, (record { up = lit≤ tt; down = lit≤ tt }, (record { up = lit≤ tt; down = lit≤ tt }, (record { up = lit≤ tt; down = lit≤ tt }, (record { up = lit≤ tt; down = lit≤ tt }, (record { up = lit≤ tt; down = lit≤ tt }, (record { up = lit≤ tt; down = lit≤ tt }, record { up = lit≤ tt; down = lit≤ tt })))))))

pub served_one : IsServedRun run_one log session_one
unfolding session_one star_after
served_one = record {
  serving = record {
    serves = plain_serves plan_one is_plain_one;
    moment = record {
      new = (refl, refl);
      opened = refl;
      meets = record { legal = legal; begins = ((join_two ∷ later, refl), tt); tallied = (refl, (refl, tt)); apart = (((λ e. cc), tt), (tt, tt)) };
      first = (leave_one ∷ leave_two ∷ [], refl);
      answer = refl;
      stays = ([], refl);
    };
    opens = opens;
    limited = lit≤ tt;
    spelled = spelled_one;
  };
  up = record { more = []; bye = false; spelled = (tt, is_plain_one.spelled); left = []; bytes = wrote_all plan_one is_plain_one };
  down = record {
    received = record {
      read = played.flat_map line_bytes (lines plan_one);
      site = 1;
      limit = 9;
      body = board_lines board;
      is_body = (tt, (tt, tt));
      lines = lines_brought (fetch_one ∷ []);
      waiting = Bye ∷ [];
      progress = clean;
      reads = read_all plan_one is_plain_one spelled_one;
      downs = downs_one;
      held = Some [];
      said = record { sound = ((lit≤ tt, lit≤ tt), (refl, tt)); rest = (refl, played.at_first.rest.1) };
      later = [];
      handed = refl;
    };
    left = [];
    bytes = append-nil (played.flat_map line_bytes (lines plan_one));
  };
  causal = causal_one;
}

pub served_two : IsServedRun run_two log session_two
unfolding session_two star_after
served_two = record {
  serving = record {
    serves = plain_serves plan_two is_plain_two;
    moment = record {
      new = (refl, refl);
      opened = refl;
      meets = record { legal = legal; begins = ((later, refl), tt); tallied = (refl, (refl, tt)); apart = (((λ e. cc), tt), (tt, tt)) };
      first = (leave_one ∷ leave_two ∷ [], refl);
      answer = refl;
      stays = ([], refl);
    };
    opens = opens;
    limited = lit≤ tt;
    spelled = spelled_two;
  };
  up = record { more = []; bye = false; spelled = (tt, is_plain_two.spelled); left = []; bytes = wrote_all plan_two is_plain_two };
  down = record {
    received = record {
      read = played.flat_map line_bytes (lines plan_two);
      site = 2;
      limit = 9;
      body = board_lines board;
      is_body = (tt, (tt, tt));
      lines = lines_brought (fetch_two ∷ []);
      waiting = Bye ∷ [];
      progress = clean;
      reads = read_all plan_two is_plain_two spelled_two;
      downs = downs_two;
      held = Some [];
      said = record { sound = ((lit≤ tt, lit≤ tt), tt); rest = (refl, played.at_first.rest.1) };
      later = [];
      handed = refl;
    };
    left = [];
    bytes = append-nil (played.flat_map line_bytes (lines plan_two));
  };
  causal = causal_two;
}

-- # Nothing is on its way

link_one : BoardLink
link_one = record { site = 1; end = record { side = Server; received = 1; acknowledged = 0; outgoing = nothing ∷ []; unanswered = 1 }; outbox = []; named = 0 }

link_two : BoardLink
link_two = record { site = 2; end = record { side = Server; received = 1; acknowledged = 0; outgoing = switch true ∷ []; unanswered = 0 }; outbox = []; named = 0 }

pub drained : AreDrained run_one run_two
unfolding star_after link_one link_two
drained = record {
  board = refl;
  limit = refl;
  keeps = refl;
  calls = refl;
  one = link_one;
  one_attached = refl;
  one_drained = record { up = refl; down = refl; outbox = refl };
  two = link_two;
  two_attached = refl;
  two_drained = record { up = refl; down = refl; outbox = refl };
}

pub two_entries : length (now run_one).star.order ≡ 2
unfolding star_after
two_entries = refl

-- # The client of the second run

abbrev client_of : BoardSite → played.ClientState
client_of site = record { site = site; gather = Some []; pings = 0 }

abbrev mine : played.Said
mine = played.SaysUp (UpOp (message 0 0 (switch false)))

abbrev pub client_first : played.ClientState
client_first = client_of (start run_two).site

abbrev client_made : played.ClientState
client_made = client_of (site_edited (command false) (start run_two).site)

abbrev pub client_last : played.ClientState
client_last = client_of (now run_two).site

abbrev answer_made : played.Answer
answer_made = record { said = Some mine; told = told.Made (edit_of (switch false)) }

abbrev heard_last : played.ClientHeard
heard_last = record { said = None; is_synced = false; shown = Some (switch true) }

abbrev pub said_two : List played.Said
said_two = mine ∷ []

pub walk_two : IsClientRun steps_two client_first client_last said_two
unfolding star_after
walk_two = (client_made, mine ∷ [], [], (answer_made, (Ok (record { edit = edit_of (switch false); up = UpOp (message 0 0 (switch false)) }), (refl, refl), refl, refl, refl), refl), (client_made, [], [], (refl, refl), (client_made, [], [], (refl, refl), (client_made, [], [], (refl, refl), (client_made, [], [], (refl, refl), (client_made, [], [], (refl, refl), (client_last, [], [], (heard_last, (Ok (record { owed = None; shown = Some (switch true) }), (refl, refl), record { operations = refl; board = refl }, refl, refl), refl), (refl, refl), refl), refl), refl), refl), refl), refl), refl)
