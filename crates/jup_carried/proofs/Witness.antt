-- Two sites of one hub, over links of protocol 4.
use Rattle.std.proofs.Common.{◌≡◌, ◌≤◌, ◌⊎◌, ℕ, false, List, [], ◌∷◌, ◌++◌, map, length, take, drop, Some, refl, sym, ap, ◌∙◌, inl, inr, codes, lit≤, lit<}
use Rattle.std.specs.Fmt.{digits}
use Rattle.jup_star.specs.Stars.{star_after}
use Rattle.jup_served.specs.Prelude.{Line, Up, Down, Joined, BoardBatch, HasSpelling, AllByRecursion, spelling, flat_map, flat_map-cons, map-append, bytes_read, bytes_written, at_first, SaysUp}
use Rattle.jup_served.proofs.Witness as played
use Rattle.jup_wire.specs.declared.line.Line.TheVariants.{Bye}
use Rattle.jup_session.specs.Prelude.{Hello, board_lines}
use Rattle.jup_resume.specs.Texts.{spelled}
use Rattle.jup_resume.specs.Notes.{begins_note}
use Rattle.jup_resume.specs.Ways.{new_way, Event, Writes, Begins as BeginsCarrier, run, AreAllowed, IsAllowed, comes}
use Rattle.jup_resume.proofs.Texts.{all_both}
use Rattle.jup_honest.specs.Sites.{start, Begins, Connection}
use Rattle.jup_socket.specs.Sockets.{said_lines, all_said, written_down, messages_down, Brought}
use Rattle.jup_carried.specs.Carried.{Ways, new_ways, GoOn, BreaksWithin, texts, bytes_handed, Hears, Carries, AtEach, messages_up, IsInTime, IsCarriedRun}
use Rattle.jup_carried.specs.CutRuns as cut
use Rattle.jup_carried.proofs.Links.{text_bytes, first_bytes}
use Rattle.jup_carried.proofs.CutRuns as ran

-- # The first site's link, which is cut twice

abbrev lines_up : List Line
lines_up = said_lines (all_said (played.ups_one ++ []) false)

abbrev lines_down : List Line
lines_down = written_down (played.joined 1) played.downs_one []

up_texts : texts lines_up ≡ cut.up_lines
unfolding digits
up_texts = refl

down_texts : texts lines_down ≡ cut.down_lines
unfolding digits
down_texts = refl

-- both ways as the run goes on
abbrev greeted : Ways
greeted = record { up = ran.up_carried; down = ran.down_greeted }

abbrev broken : Ways
broken = record { up = ran.up_broken; down = ran.down_greeted }

abbrev taken : Ways
taken = record { up = ran.up_taken; down = ran.down_resumed }

abbrev broken_again : Ways
broken_again = record { up = ran.up_taken; down = ran.down_broken }

abbrev pub last : Ways
last = record { up = ran.up_last; down = ran.down_last }

stays : (ways : Ways) → GoOn ways ways
stays ways = record { ups = []; downs = []; ups_allowed = tt; downs_allowed = tt; up = refl; down = refl }

greets : GoOn new_ways greeted
greets = record { ups = cut.carry; downs = cut.downs_first; ups_allowed = (tt, (tt, tt)); downs_allowed = ran.downs_first; up = refl; down = refl }

breaks : GoOn greeted broken
breaks = record { ups = cut.ups_first; downs = []; ups_allowed = ran.ups_first; downs_allowed = tt; up = refl; down = refl }

takes : GoOn broken taken
takes = record { ups = cut.ups_second; downs = cut.downs_second; ups_allowed = ran.ups_second; downs_allowed = ran.downs_second; up = refl; down = refl }

breaks_again : GoOn taken broken_again
breaks_again = record { ups = []; downs = cut.downs_broken; ups_allowed = tt; downs_allowed = ran.downs_broken; up = refl; down = refl }

ends : GoOn broken_again last
ends = record { ups = cut.ups_third; downs = cut.downs_third; ups_allowed = ran.ups_third; downs_allowed = ran.downs_third; up = refl; down = refl }

-- # What its ends do

spelled_up : AllByRecursion HasSpelling lines_up
spelled_up = ((lit< tt, (lit< tt, (lit≤ tt, lit≤ tt))), ((lit< tt, (lit< tt, tt)), (lit< tt, tt)))

spelled_edit : AllByRecursion HasSpelling (said_lines (all_said (take 1 played.ups_one) false))
spelled_edit = ((lit< tt, (lit< tt, (lit≤ tt, lit≤ tt))), ((lit< tt, (lit< tt, tt)), tt))

spelled_greeting : AllByRecursion HasSpelling (written_down (played.joined 1) [] [])
spelled_greeting = ((lit< tt, lit< tt), (lit< tt, ((lit< tt, tt), (tt, tt))))

spelled_down : AllByRecursion HasSpelling lines_down
spelled_down = ((lit< tt, lit< tt), (lit< tt, ((lit< tt, tt), (tt, ((lit< tt, (lit< tt, (lit≤ tt, lit≤ tt))), ((lit< tt, (lit< tt, tt)), (lit< tt, tt)))))))

-- the client read all that was handed on, and some of the messages were delivered
hears_one : (delivered later : List (Down BoardBatch)) → played.downs_one ≡ delivered ++ later → Hears delivered ran.down_last
unfolding digits
hears_one delivered later all = record {
  received = record {
    read = flat_map spelled cut.down_lines;
    site = 1;
    limit = 9;
    body = board_lines played.board;
    is_body = (tt, (tt, tt));
    lines = messages_down played.downs_one;
    waiting = [];
    progress = played.clean;
    reads = record { spelled = spelled_down; rest = (refl, played.no_part) };
    downs = played.downs_one;
    held = Some [];
    said = record { sound = ((lit≤ tt, lit≤ tt), (refl, tt)); rest = (refl, at_first.rest.1) };
    later = later;
    handed = all;
  };
  first = ([], refl);
}

-- what the session read is the first of what was handed on to it, and what was put is the first of what it wrote
read_one : Begins (spelling Hello ++ bytes_handed last.up) (bytes_read played.session_one.exact)
read_one = ([], ap (λ ts. spelling Hello ++ flat_map spelled ts) (sym up_texts) ∙ ap (λ bs. spelling Hello ++ bs) (text_bytes lines_up) ∙ sym (flat_map-cons spelling Hello lines_up) ∙ sym played.read_one)

put_one : Begins (bytes_written played.session_one.exact) (flat_map spelled last.down.put)
unfolding digits
put_one =
    let lines = written_down (played.joined 1) played.downs_one (Bye ∷ []) in
    let first = first_bytes spelled [] (texts lines) cut.down_lines (codes "bye" ∷ [], refl) in
    (first.0, played.written_one ∙ sym (text_bytes lines) ∙ first.1)

-- neither end is ahead at one moment
in_time : {answer : Joined} {ups : List (Up BoardBatch)} {downs : List (Down BoardBatch)} {c : Connection} {ways : Ways} → length ways.up.put ≤ length (messages_up c.sent) → length (messages_up c.taken) ≤ length ways.up.handed
    → length ways.down.put ≤ length (written_down answer c.fetched []) → (c.handed ≡ []) ⊎ (length (written_down answer c.handed []) ≤ length ways.down.handed) → IsInTime answer ups downs c ways
in_time said taken written delivered = record { said = inl said; taken = taken; written = inl written; delivered = delivered }

pub carried_one : IsCarriedRun played.run_one played.log played.session_one
unfolding digits star_after
carried_one = record {
  serving = played.served_one.serving;
  ways = last;
  more = [];
  puts = record { bye = false; spells = spelled_up; put = ([], refl) };
  read = read_one;
  put = put_one;
  hears = hears_one played.downs_one [] refl;
  first = new_ways;
  opens = stays new_ways;
  in_time = (
    in_time (lit≤ tt) (lit≤ tt) (lit≤ tt) (inl refl),
    (
      greeted,
      greets,
      (
        in_time (lit≤ tt) (lit≤ tt) (lit≤ tt) (inl refl),
        (
          greeted,
          stays greeted,
          (
            in_time (lit≤ tt) (lit≤ tt) (lit≤ tt) (inl refl),
            (
              broken,
              breaks,
              (
                in_time (lit≤ tt) (lit≤ tt) (lit≤ tt) (inl refl),
                (
                  broken,
                  stays broken,
                  (
                    in_time (lit≤ tt) (lit≤ tt) (lit≤ tt) (inl refl),
                    (
                      taken,
                      takes,
                      (
                        in_time (lit≤ tt) (lit≤ tt) (lit≤ tt) (inl refl),
                        (
                          taken,
                          stays taken,
                          (
                            in_time (lit≤ tt) (lit≤ tt) (lit≤ tt) (inl refl),
                            (
                              broken_again,
                              breaks_again,
                              (
                                in_time (lit≤ tt) (lit≤ tt) (lit≤ tt) (inl refl),
                                (
                                  last,
                                  ends,
                                  (
                                    in_time (lit≤ tt) (lit≤ tt) (lit≤ tt) (inr (lit≤ tt)),
                                    (
                                      last,
                                      stays last,
                                      (
                                        in_time (lit≤ tt) (lit≤ tt) (lit≤ tt) (inr (lit≤ tt)),
                                        (
                                          last,
                                          stays last,
                                          (
                                            in_time (lit≤ tt) (lit≤ tt) (lit≤ tt) (inr (lit≤ tt)),
                                            stays last,
                                          ),
                                        ),
                                      ),
                                    ),
                                  ),
                                ),
                              ),
                            ),
                          ),
                        ),
                      ),
                    ),
                  ),
                ),
              ),
            ),
          ),
        ),
      ),
    ),
  );
}

-- # At each moment the first link is carried

-- the session read `hello` alone
brought_hello : Brought []
brought_hello = record {
  read = spelling Hello;
  lines = [];
  waiting = [];
  progress = played.clean;
  reads = record { spelled = (tt, tt); rest = (refl, played.no_part) };
  saids = [];
  held = Some [];
  said = at_first;
  later = [];
  takes = refl;
}

-- it read all that the client said, and some of the messages were brought to the star
brought_all : (taken later : List (Up BoardBatch)) → played.ups_one ≡ taken ++ later → Brought taken
unfolding digits
brought_all taken later all = record {
  read = spelling Hello ++ flat_map spelled cut.up_lines;
  lines = lines_up;
  waiting = [];
  progress = played.clean;
  reads = record { spelled = (tt, spelled_up); rest = (refl, played.no_part) };
  saids = map (λ up. SaysUp up) played.ups_one;
  held = Some [];
  said = record { sound = ((lit≤ tt, lit≤ tt), (refl, tt)); rest = (refl, at_first.rest.1) };
  later = map (λ up. SaysUp up) later;
  takes = ap (map (λ up. SaysUp up)) all ∙ map-append (λ up. SaysUp up) taken later;
}

pub moments : AtEach (Carries played.run_one.answer) played.run_one.steps (start played.run_one) new_ways last
unfolding digits star_after brought_hello brought_all
moments = (
  record { up = record { puts = record { bye = false; spells = tt; put = ([], refl) }; brought = brought_hello; first = ([], refl) }; down = record { last = []; ends = tt; spells = spelled_greeting; put = (texts (written_down (played.joined 1) [] []), refl); hears = inl refl } },
  (
    greeted,
    greets,
    (
      record { up = record { puts = record { bye = false; spells = tt; put = ([], refl) }; brought = brought_hello; first = ([], refl) }; down = record { last = []; ends = tt; spells = spelled_greeting; put = ([], refl); hears = inl refl } },
      (
        greeted,
        stays greeted,
        (
          record { up = record { puts = record { bye = false; spells = spelled_edit; put = (texts (said_lines (all_said (take 1 played.ups_one) false)), refl) }; brought = brought_hello; first = ([], refl) }; down = record { last = []; ends = tt; spells = spelled_greeting; put = ([], refl); hears = inl refl } },
          (
            broken,
            breaks,
            (
              record { up = record { puts = record { bye = false; spells = spelled_up; put = ([], refl) }; brought = brought_hello; first = (bytes_handed ran.up_broken, refl) }; down = record { last = []; ends = tt; spells = spelled_greeting; put = ([], refl); hears = inl refl } },
              (
                broken,
                stays broken,
                (
                  record { up = record { puts = record { bye = false; spells = spelled_up; put = ([], refl) }; brought = brought_hello; first = (bytes_handed ran.up_broken, refl) }; down = record { last = []; ends = tt; spells = spelled_greeting; put = ([], refl); hears = inl refl } },
                  (
                    taken,
                    takes,
                    (
                      record { up = record { puts = record { bye = false; spells = spelled_up; put = ([], refl) }; brought = brought_all (take 1 played.ups_one) (drop 1 played.ups_one) refl; first = ([], refl) }; down = record { last = []; ends = tt; spells = spelled_greeting; put = ([], refl); hears = inl refl } },
                      (
                        taken,
                        stays taken,
                        (
                          record { up = record { puts = record { bye = false; spells = spelled_up; put = ([], refl) }; brought = brought_all played.ups_one [] refl; first = ([], refl) }; down = record { last = []; ends = tt; spells = spelled_greeting; put = ([], refl); hears = inl refl } },
                          (
                            broken_again,
                            breaks_again,
                            (
                              record { up = record { puts = record { bye = false; spells = spelled_up; put = ([], refl) }; brought = brought_all played.ups_one [] refl; first = ([], refl) }; down = record { last = []; ends = tt; spells = spelled_down; put = ([], refl); hears = inl refl } },
                              (
                                last,
                                ends,
                                (
                                  record { up = record { puts = record { bye = false; spells = spelled_up; put = ([], refl) }; brought = brought_all played.ups_one [] refl; first = ([], refl) }; down = record { last = []; ends = tt; spells = spelled_down; put = ([], refl); hears = inr (hears_one (take 1 played.downs_one) (drop 1 played.downs_one) refl) } },
                                  (
                                    last,
                                    stays last,
                                    (
                                      record { up = record { puts = record { bye = false; spells = spelled_up; put = ([], refl) }; brought = brought_all played.ups_one [] refl; first = ([], refl) }; down = record { last = []; ends = tt; spells = spelled_down; put = ([], refl); hears = inr (hears_one played.downs_one [] refl) } },
                                      (
                                        last,
                                        stays last,
                                        (
                                          record { up = record { puts = record { bye = false; spells = spelled_up; put = ([], refl) }; brought = brought_all played.ups_one [] refl; first = ([], refl) }; down = record { last = []; ends = tt; spells = spelled_down; put = ([], refl); hears = inr (hears_one played.downs_one [] refl) } },
                                          stays last,
                                        ),
                                      ),
                                    ),
                                  ),
                                ),
                              ),
                            ),
                          ),
                        ),
                      ),
                    ),
                  ),
                ),
              ),
            ),
          ),
        ),
      ),
    ),
  ),
)

-- # The second site's link, which is cut once

abbrev said_two : List Line
said_two = said_lines (all_said (played.ups_two ++ []) false)

abbrev written_two : List Line
written_two = written_down (played.joined 2) played.downs_two []

abbrev texts_up : List (List ℕ)
texts_up = codes "batch 0 0 1" ∷ codes "do 1 1 toggle set off" ∷ []

abbrev texts_down : List (List ℕ)
texts_down = codes "welcome 2 9" ∷ codes "window 1" ∷ codes "toggle 1 off" ∷ codes "ready" ∷ codes "batch 0 1 1" ∷ codes "do 1 1 toggle set on" ∷ []

up_texts_two : texts said_two ≡ texts_up
unfolding digits
up_texts_two = refl

-- its connection breaks within the last line, and the next one brings that
abbrev parts : List (List ℕ) → ℕ → ℕ → List Event
parts lines first rest = (cut.carry ++ (cut.put_all lines ++ comes first)) ++ (cut.carry ++ Writes ∷ comes rest)

parts_allowed : (lines : List (List ℕ)) (first rest : ℕ) → AreAllowed begins_note (cut.put_all lines) → AreAllowed begins_note (parts lines first rest)
parts_allowed lines first rest all =
    all_both (IsAllowed begins_note) (cut.carry ++ (cut.put_all lines ++ comes first)) (cut.carry ++ Writes ∷ comes rest)
    (tt, (tt, ran.then_comes (cut.put_all lines) first all)) (tt, (tt, (tt, ran.comes_allowed rest)))

abbrev two_taken : Ways
two_taken = record { up = run begins_note (parts texts_up 17 22) new_way; down = new_way }

abbrev pub two_last : Ways
two_last = record { up = two_taken.up; down = run begins_note (parts texts_down 55 21) new_way }

up_parts : AreAllowed begins_note (parts texts_up 17 22)
unfolding ran.lacks_feed
up_parts = parts_allowed texts_up 17 22 ((ran.no_feed (codes "batch 0 0 1") refl, refl), ((ran.no_feed (codes "do 1 1 toggle set off") refl, refl), (tt, (tt, (tt, tt)))))

down_parts : AreAllowed begins_note (parts texts_down 55 21)
unfolding ran.lacks_feed
down_parts = parts_allowed texts_down 55 21 (
  (ran.no_feed (codes "welcome 2 9") refl, refl),
  (
    (ran.no_feed (codes "window 1") refl, refl),
    (
      (ran.no_feed (codes "toggle 1 off") refl, refl),
      (
        (ran.no_feed (codes "ready") refl, refl),
        ((ran.no_feed (codes "batch 0 1 1") refl, refl), ((ran.no_feed (codes "do 1 1 toggle set on") refl, refl), (tt, (tt, (tt, (tt, (tt, (tt, (tt, tt))))))))),
      ),
    ),
  ),
)

goes_up : GoOn new_ways two_taken
goes_up = record { ups = parts texts_up 17 22; downs = []; ups_allowed = up_parts; downs_allowed = tt; up = refl; down = refl }

goes_down : GoOn two_taken two_last
goes_down = record { ups = []; downs = parts texts_down 55 21; ups_allowed = tt; downs_allowed = down_parts; up = refl; down = refl }

hears_two : Hears played.downs_two two_last.down
unfolding digits
hears_two = record {
  received = record {
    read = flat_map spelled texts_down;
    site = 2;
    limit = 9;
    body = board_lines played.board;
    is_body = (tt, (tt, tt));
    lines = messages_down played.downs_two;
    waiting = [];
    progress = played.clean;
    reads = record {
      spelled = ((lit< tt, lit< tt), (lit< tt, ((lit< tt, tt), (tt, ((lit< tt, (lit< tt, (lit≤ tt, lit≤ tt))), ((lit< tt, (lit< tt, tt)), tt))))));
      rest = (refl, played.no_part);
    };
    downs = played.downs_two;
    held = Some [];
    said = record { sound = ((lit≤ tt, lit≤ tt), tt); rest = (refl, at_first.rest.1) };
    later = [];
    handed = refl;
  };
  first = ([], refl);
}

read_two : Begins (spelling Hello ++ bytes_handed two_last.up) (bytes_read played.session_two.exact)
read_two = ([], ap (λ ts. spelling Hello ++ flat_map spelled ts) (sym up_texts_two) ∙ ap (λ bs. spelling Hello ++ bs) (text_bytes said_two) ∙ sym (flat_map-cons spelling Hello said_two) ∙ sym played.read_two)

put_two : Begins (bytes_written played.session_two.exact) (flat_map spelled two_last.down.put)
unfolding digits
put_two =
    let lines = written_down (played.joined 2) played.downs_two (Bye ∷ []) in
    let first = first_bytes spelled [] (texts lines) texts_down (codes "bye" ∷ [], refl) in
    (first.0, played.written_two ∙ sym (text_bytes lines) ∙ first.1)

pub carried_two : IsCarriedRun played.run_two played.log played.session_two
unfolding digits star_after
carried_two = record {
  serving = played.served_two.serving;
  ways = two_last;
  more = [];
  puts = record { bye = false; spells = ((lit< tt, (lit< tt, (lit≤ tt, lit≤ tt))), ((lit< tt, (lit< tt, tt)), tt)); put = ([], refl) };
  read = read_two;
  put = put_two;
  hears = hears_two;
  first = new_ways;
  opens = stays new_ways;
  in_time = (
    in_time (lit≤ tt) (lit≤ tt) (lit≤ tt) (inl refl),
    (
      new_ways,
      stays new_ways,
      (
        in_time (lit≤ tt) (lit≤ tt) (lit≤ tt) (inl refl),
        (
          two_taken,
          goes_up,
          (
            in_time (lit≤ tt) (lit≤ tt) (lit≤ tt) (inl refl),
            (
              two_taken,
              stays two_taken,
              (
                in_time (lit≤ tt) (lit≤ tt) (lit≤ tt) (inl refl),
                (
                  two_taken,
                  stays two_taken,
                  (
                    in_time (lit≤ tt) (lit≤ tt) (lit≤ tt) (inl refl),
                    (
                      two_taken,
                      stays two_taken,
                      (
                        in_time (lit≤ tt) (lit≤ tt) (lit≤ tt) (inl refl),
                        (
                          two_taken,
                          stays two_taken,
                          (
                            in_time (lit≤ tt) (lit≤ tt) (lit≤ tt) (inl refl),
                            (
                              two_last,
                              goes_down,
                              (
                                in_time (lit≤ tt) (lit≤ tt) (lit≤ tt) (inr (lit≤ tt)),
                                stays two_last,
                              ),
                            ),
                          ),
                        ),
                      ),
                    ),
                  ),
                ),
              ),
            ),
          ),
        ),
      ),
    ),
  );
}

-- # The cuts

some_part : (byte : ℕ) (part : List ℕ) → byte ∷ part ≡ [] → ⊥
some_part byte part e = cc

pub up_breaks : BreaksWithin carried_one.ways.up
unfolding carried_one
up_breaks = record { before = cut.carry ++ cut.ups_first; later = drop 1 cut.ups_second ++ cut.ups_third; allowed = ran.up_allowed; within = some_part 100 (codes "o 1 "); is = refl }

pub down_breaks : BreaksWithin carried_one.ways.down
unfolding carried_one
down_breaks = record { before = cut.downs_first ++ (cut.downs_second ++ (cut.downs_broken ++ take 1 cut.downs_third)); later = drop 2 cut.downs_third; allowed = ran.down_allowed; within = some_part 100 (codes "o 1 1 t"); is = refl }

pub up_breaks_two : BreaksWithin carried_two.ways.up
unfolding carried_two
up_breaks_two = record { before = cut.carry ++ (cut.put_all texts_up ++ comes 17); later = BeginsCarrier ∷ Writes ∷ comes 22; allowed = up_parts; within = some_part 100 (codes "o 1 "); is = refl }

pub down_breaks_two : BreaksWithin carried_two.ways.down
unfolding carried_two
down_breaks_two = record { before = cut.carry ++ (cut.put_all texts_down ++ comes 55); later = BeginsCarrier ∷ Writes ∷ comes 21; allowed = down_parts; within = some_part 100 (codes "o "); is = refl }
