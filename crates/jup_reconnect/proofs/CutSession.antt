-- A session that goes on over a cut.
use Rattle.std.proofs.Common.{◌≡◌, ◌≢◌, ℕ, ◌+◌, ◌<◌, ◌≤◌, Bool, true, false, List, [], ◌∷◌, ◌++◌, length, replicate, Option, None, Some, refl, ap, arith, inl, inr, codes, lit<, lit≤}
use Rattle.std.specs.Fmt.{digits}
use Rattle.jup_resume.specs.Texts.{Text, spelled}
use Rattle.jup_resume.specs.Confirmations.{Confirmation}
use Rattle.jup_resume.specs.Keepers.{Keeping}
use Rattle.jup_resume.specs.Notes.{note_text}
use Rattle.jup_resume.specs.FirstLines.{IsNoNote}
use Rattle.jup_resume.specs.Ways.{Way, new_way, comes, Puts, Stores, Writes, Notes, Begins}
use Rattle.jup_resume.specs.declared.note.Note.TheVariants.{Hello, Link as OpensLink, Resume, Resumed, Ended, Got}
use Rattle.jup_resume.specs.declared.taker.Arrival.TheVariants.{Part, Note as IsNoteLine, Line as IsLine}
use Rattle.jup_lasting.specs.declared.link.Heard.TheVariants as heard
use Rattle.jup_lasting.specs.declared.terms.Terms.{Terms}
use Rattle.jup_lasting.specs.declared.carriage.Carriage.{Carriage}
use Rattle.jup_lasting.specs.declared.carriage.Carriage.TheVariants as carriage
use Rattle.jup_lasting.proofs.CutRun.{lacks_feed, no_feed, ends, ready, ping, terms, is_token, no_note, keeping, not_owed}
use Rattle.jup_lasting.proofs.FirstHeard.{opened_heard, resumed_heard, ready_heard, welcome_heard}
use Rattle.jup_lasting.specs.Links.{Link, OwesGot}
use Rattle.jup_lasting.specs.Runs.{Connection, Silent, Carrier, Cut, Serve, welcoming}
use Rattle.jup_embed.specs.declared.phase.Phase.TheVariants as phase
use Rattle.jup_embed.specs.Sessions.{Session}
use Rattle.jup_embed.proofs.OpenedSession.{session, opening, state, is_ungreeted, pings, takes_welcome, takes_ready}
use Rattle.jup_reconnect.specs.Lasting.{IsPong}
use Rattle.jup_reconnect.specs.Runs.{Situation, Feed, MoveOut, OfLink, IsFirst, Does, AllDone, cut_calls}

-- Lines.

abbrev welcome : Text
welcome = codes "welcome 1 1000"

first : List ℕ → ℕ
first [] = 0
first (a ∷ bytes) = a

not_first : (a b : List ℕ) → first a ≢ first b → a ≢ b
not_first a b other same = other (ap first same)

welcome_no_note : IsNoNote welcome
unfolding first
welcome_no_note Hello is = not_first welcome (note_text Hello) (λ e. omega (arith, e))
welcome_no_note (OpensLink t seconds kept) is = not_first welcome (note_text (OpensLink t seconds kept)) (λ e. omega (arith, e))
welcome_no_note (Resume t taken) is = not_first welcome (note_text (Resume t taken)) (λ e. omega (arith, e))
welcome_no_note (Resumed taken) is = not_first welcome (note_text (Resumed taken)) (λ e. omega (arith, e))
welcome_no_note (Ended taken) is = not_first welcome (note_text (Ended taken)) (λ e. omega (arith, e))
welcome_no_note (Got taken) is = not_first welcome (note_text (Got taken)) (λ e. omega (arith, e))

welcome_no_pong : IsPong welcome None
unfolding first
welcome_no_pong value is same = let e : first welcome ≡ 112 = ap first same in omega (arith, e)

ready_no_pong : IsPong ready None
unfolding first
ready_no_pong value is same = let e : first ready ≡ 112 = ap first same in omega (arith, e)

-- The situations of the run.

abbrev confirmation : ℕ → ℕ → Bool → Confirmation
confirmation taken told is_owed = record { taken = taken; told = told; quiet = 0; is_owed = is_owed }

abbrev link : Keeping → List ℕ → Confirmation → Carriage → List ℕ → Option Terms → Bool → Link
link up part confirming carriage waiting opened is_ready = record {
  up = up;
  down = record { part = part; taken = confirming.taken };
  confirming = confirming;
  carriage = carriage;
  waiting = waiting;
  terms = opened;
  is_ready = is_ready;
  lines = length up.kept;
  edits = 0;
  arrived = None;
  silence = 0;
}

abbrev way : List Text → Keeping → List ℕ → List ℕ → List Text → Option ℕ → Way
way put keeper wire part handed place =
    record { put = put; keeper = keeper; stored = length put; wire = wire; part = part; handed = handed; safe = 0; counts = []; place = place }

abbrev situation : Session → Link → Way → Way → Connection → Situation
situation s l up down connection =
    record { session = s; answered = 0; moment = record { link = l; ways = record { up = up; down = down }; connection = connection; said = up.put; told = down.handed } }

abbrev ungreeted : Session
ungreeted = session phase.Greeting []

abbrev greeted : Session
greeted = session (phase.Opening opening) []

abbrev opened : Session
opened = session (phase.Open (state 0)) []

abbrev pinged : Session
pinged = session (phase.Open (state 1)) (spelled ping)

abbrev sent : Session
sent = session (phase.Open (state 1)) []

abbrev nothing : Way
nothing = way [] (keeping [] 0 false) [] [] [] (Some 0)

abbrev served : List ℕ → List ℕ → List Text → Way
served wire part handed = way (welcome ∷ ready ∷ []) (keeping (welcome ∷ ready ∷ []) 2 true) wire part handed None

abbrev asking : List ℕ → Link
asking waiting = link (keeping [] 0 false) [] (confirmation 0 0 false) carriage.Asking waiting None false

abbrev carried : List ℕ → ℕ → Bool → Bool → Link
carried part taken is_owed is_ready = link (keeping [] 0 true) part (confirmation taken 0 is_owed) carriage.Carried [] (Some terms) is_ready

abbrev s0 : List ℕ → Situation
s0 waiting = situation ungreeted (asking waiting) new_way new_way Silent

abbrev s2 : Situation
s2 = situation ungreeted (asking []) nothing nothing Carrier

abbrev s3 : Situation
s3 = situation ungreeted (asking []) nothing (served (spelled (note_text welcoming) ++ spelled welcome ++ spelled ready) [] []) Carrier

abbrev up_open : Way
up_open = way [] (keeping [] 0 true) [] [] [] None

abbrev s4a : Situation
s4a = situation ungreeted (carried [] 0 false false) up_open (served (spelled welcome ++ spelled ready) [] []) Carrier

abbrev s4b : Situation
s4b = situation greeted (carried [] 1 false false) up_open (served (spelled ready) [] (welcome ∷ [])) Carrier

abbrev s4 : Situation
s4 = situation greeted (carried (codes "rea") 1 false false) up_open (served (spelled (codes "dy")) (codes "rea") (welcome ∷ [])) Carrier

abbrev again : Carriage → List ℕ → Link
again carriage waiting = link (keeping [] 0 false) [] (confirmation 1 0 false) carriage waiting (Some terms) false

abbrev s5 : Carriage → List ℕ → Situation
s5 carriage waiting = situation greeted (again carriage waiting) up_open (served (spelled (codes "dy")) (codes "rea") (welcome ∷ [])) Silent

abbrev s8 : Situation
s8 = situation greeted (again carriage.Asking []) nothing
    (way (welcome ∷ ready ∷ []) (keeping (welcome ∷ ready ∷ []) 0 false) [] [] (welcome ∷ []) (Some 1)) Carrier

abbrev s9 : Situation
s9 = situation greeted (again carriage.Asking []) nothing (served (spelled (note_text (Resumed 0)) ++ spelled ready) [] (welcome ∷ [])) Carrier

abbrev s10a : Situation
s10a = situation greeted (carried [] 1 true false) up_open (served (spelled ready) [] (welcome ∷ [])) Carrier

abbrev s10 : Session → Situation
s10 s = situation s (carried [] 2 true true) up_open (served [] [] (welcome ∷ ready ∷ [])) Carrier

abbrev s12 : List ℕ → List Text → Situation
s12 wire handed = situation sent (link (keeping (ping ∷ []) 1 true) [] (confirmation 2 2 false) carriage.Carried [] (Some terms) true)
    (way (ping ∷ []) (keeping (ping ∷ []) 1 true) wire [] handed None)
    (record (served [] [] (welcome ∷ ready ∷ [])) { safe = 2; counts = 2 ∷ [] }) Carrier

-- Its calls.

greets : Does (MoveOut (spelled (note_text Hello))) (s0 (spelled (note_text Hello))) (s0 [])
greets = record {
  middle = record { session = ungreeted; link = asking (spelled (note_text Hello)); answered = 0 };
  puts = record { texts = []; said = refl; put = refl; session = refl; answered = refl };
  leads = (
    (s0 []).moment,
    (
      (
        asking [],
        (spelled (note_text Hello) ∷ [], (asking [], (asking (spelled (note_text Hello)), inl ((λ e. absurd cc), refl), refl, refl), refl), refl),
        refl,
      ),
      refl,
    ),
    refl,
  );
  same = refl;
}

serves : Does (OfLink (Serve [] (Begins ∷ Notes (note_text welcoming) ∷ Puts welcome ∷ Puts ready ∷ Stores ∷ Writes ∷ Writes ∷ []))) s2 s3
unfolding digits lacks_feed
serves = (tt, (tt, (tt, ((no_feed (note_text welcoming) refl, refl), ((no_feed welcome refl, refl), ((no_feed ready refl, refl), (tt, (tt, (tt, tt))))))), refl), refl)

feeds : Does (Feed (spelled (note_text welcoming) ++ spelled welcome ++ codes "rea")) s3 s4
unfolding digits lacks_feed
feeds = record {
  lefts = (spelled welcome ++ codes "rea") ∷ codes "rea" ∷ [] ∷ [];
  left = [];
  middle = s4;
  passes = (
    s4a,
    record {
      h = heard.Nothing;
      middle = s4a.moment;
      hears = inl (record {
        more = spelled (codes "dy");
        hears = (
          IsNoteLine welcoming,
          [],
          ((is_token, lit< tt), ends (note_text welcoming) (spelled welcome ++ codes "rea") refl (lit< tt)),
          opened_heard (asking []) refl (record { low = lit≤ tt; high = lit≤ tt }),
        );
        carrier = refl;
        brought = refl;
        honest = (lit≤ tt, refl);
        up = refl;
        down = refl;
        same = refl;
      });
      one_link = λ e. absurd cc;
      handles = (refl, refl);
      rest_same = refl;
    },
    (
      s4b,
      record {
        h = heard.Line welcome;
        middle = s4b.moment;
        hears = inl (record {
          more = spelled (codes "dy");
          hears = (IsLine welcome, [], (welcome_no_note, ends welcome (codes "rea") refl (lit< tt)), welcome_heard (carried [] 0 false false) (lit< tt));
          carrier = refl;
          brought = refl;
          honest = (refl, lit< tt);
          up = refl;
          down = refl;
          same = refl;
        });
        one_link = λ e. absurd cc;
        handles = (None, welcome_no_pong, takes_welcome, refl);
        rest_same = refl;
      },
      (
        s4,
        record {
          h = heard.Nothing;
          middle = s4.moment;
          hears = inl (record {
            more = spelled (codes "dy");
            hears = (Part, codes "rea", record { part = refl; is_part = record { short = lit< tt; open_ended = no_feed (codes "rea") refl }; all = refl }, (refl, refl));
            carrier = refl;
            brought = refl;
            honest = tt;
            up = refl;
            down = refl;
            same = refl;
          });
          one_link = λ e. absurd cc;
          handles = (refl, refl);
          rest_same = refl;
        },
        (refl, refl),
      ),
    ),
  );
  ends = inl (refl, refl);
}

resumes : Does (MoveOut (spelled (note_text (Resume (replicate 32 48) 1)))) (s5 carriage.Asking (spelled (note_text (Resume (replicate 32 48) 1)))) (s5 carriage.Asking [])
unfolding digits
resumes = record {
  middle = record { session = greeted; link = again carriage.Asking (spelled (note_text (Resume (replicate 32 48) 1))); answered = 0 };
  puts = record { texts = []; said = refl; put = refl; session = refl; answered = refl };
  leads = (
    (s5 carriage.Asking []).moment,
    (
      (
        again carriage.Asking [],
        (
          spelled (note_text (Resume (replicate 32 48) 1)) ∷ [],
          (again carriage.Asking [], (again carriage.Asking (spelled (note_text (Resume (replicate 32 48) 1))), inl ((λ e. absurd cc), refl), refl, refl), refl),
          refl,
        ),
        refl,
      ),
      refl,
    ),
    refl,
  );
  same = refl;
}

serves_again : Does (OfLink (Serve [] (Begins ∷ Notes (note_text (Resumed 0)) ∷ Writes ∷ []))) s8 s9
unfolding digits lacks_feed
serves_again = (tt, (tt, (tt, ((no_feed (note_text (Resumed 0)) refl, refl), (tt, tt))), refl), refl)

feeds_again : Does (Feed (spelled (note_text (Resumed 0)) ++ spelled ready)) s9 (s10 opened)
unfolding digits lacks_feed
feeds_again = record {
  lefts = spelled ready ∷ [] ∷ [];
  left = [];
  middle = s10 opened;
  passes = (
    s10a,
    record {
      h = heard.Nothing;
      middle = s10a.moment;
      hears = inl (record {
        more = [];
        hears = (
          IsNoteLine (Resumed 0),
          [],
          (lit< tt, ends (note_text (Resumed 0)) (spelled ready) refl (lit< tt)),
          resumed_heard (again carriage.Asking []) terms 0 refl (record { low = lit≤ tt; high = lit≤ tt }),
        );
        carrier = refl;
        brought = refl;
        honest = refl;
        up = refl;
        down = refl;
        same = refl;
      });
      one_link = λ e. absurd cc;
      handles = (refl, refl);
      rest_same = refl;
    },
    (
      s10 opened,
      record {
        h = heard.Line ready;
        middle = (s10 opened).moment;
        hears = inl (record {
          more = [];
          hears = (IsLine ready, [], (no_note, ends ready [] refl (lit< tt)), ready_heard (carried [] 1 true false) (lit< tt));
          carrier = refl;
          brought = refl;
          honest = (refl, lit< tt);
          up = refl;
          down = refl;
          same = refl;
        });
        one_link = λ e. absurd cc;
        handles = (None, ready_no_pong, takes_ready, refl);
        rest_same = refl;
      },
      (refl, refl),
    ),
  );
  ends = inl (refl, refl);
}

-- the link once the ping is put, and once the `got` is on its way
abbrev put : Link
put = link (keeping (ping ∷ []) 0 true) [] (confirmation 2 0 true) carriage.Carried [] (Some terms) true

abbrev confirming : List ℕ → Link
confirming waiting = link (keeping (ping ∷ []) 0 true) [] (confirmation 2 2 false) carriage.Carried waiting (Some terms) true

owes_no_more : OwesGot (confirming []) → ⊥
owes_no_more owes = elim owes.1 [
  | inl owed ↦ not_owed owed
  | inr (inl many) ↦ omega (arith, many)
  | inr (inr quiet) ↦ omega (arith, quiet)
]

moves : Does (MoveOut (spelled (note_text (Got 2)) ++ spelled ping)) (s10 pinged) (s12 (spelled (note_text (Got 2)) ++ spelled ping) [])
unfolding digits lacks_feed
moves = record {
  middle = record { session = sent; link = put; answered = 0 };
  puts = record { texts = ping ∷ []; said = refl; put = refl; session = refl; answered = refl };
  leads = (
    record {
      link = put;
      ways = record { up = way (ping ∷ []) (keeping (ping ∷ []) 0 true) [] [] [] None; down = served [] [] (welcome ∷ ready ∷ []) };
      connection = Carrier;
      said = ping ∷ [];
      told = welcome ∷ ready ∷ [];
    },
    ((no_feed ping refl, refl), refl),
    (
      (s12 (spelled (note_text (Got 2)) ++ spelled ping) []).moment,
      (
        (
          (s12 [] []).moment.link,
          (
            spelled (note_text (Got 2)) ∷ spelled ping ∷ [],
            (
              confirming [],
              (confirming (spelled (note_text (Got 2))), inr (refl, inl ((tt, inl refl), refl)), refl, refl),
              (
                (s12 [] []).moment.link,
                (
                  record (s12 [] []).moment.link { waiting = spelled ping },
                  inr (refl, inr (owes_no_more, refl, record { line = spelled ping; next = record { is_open = refl; text = ping; rest = []; left = refl; whole = refl }; wrote = refl; appended = refl }, refl)),
                  refl,
                  refl,
                ),
                refl,
              ),
            ),
            refl,
          ),
          refl,
        ),
        refl,
      ),
      refl,
    ),
  );
  same = refl;
}

takes : Does (OfLink (Serve (comes 13) [])) (s12 (spelled (note_text (Got 2)) ++ spelled ping) []) (s12 [] (ping ∷ []))
unfolding digits
takes = (tt, ((tt, (tt, (tt, (tt, (tt, (tt, (tt, (tt, (tt, (tt, (tt, (tt, (tt, tt))))))))))))), tt, refl), refl)

pub run_exists : (s t : Situation) × IsFirst false s × AllDone cut_calls s t × (t.moment.told ≡ welcome ∷ ready ∷ []) × (t.moment.ways.up.handed ≡ ping ∷ [])
run_exists = (
  s0 (spelled (note_text Hello)),
  s12 [] (ping ∷ []),
  record { fresh = (is_ungreeted, refl, refl); first = refl },
  (
    s0 [],
    greets,
    (
      s2,
      (tt, (refl, refl, refl), refl),
      (
        s3,
        serves,
        (
          s4,
          feeds,
          (
            s5 carriage.Cut [],
            (tt, refl, refl),
            (
              s5 carriage.Asking (spelled (note_text (Resume (replicate 32 48) 1))),
              (tt, (refl, refl), refl),
              (
                s5 carriage.Asking [],
                resumes,
                (
                  s8,
                  (tt, (refl, refl, refl), refl),
                  (
                    s9,
                    serves_again,
                    (
                      s10 opened,
                      feeds_again,
                      (
                        s10 pinged,
                        (pings, refl),
                        (s12 (spelled (note_text (Got 2)) ++ spelled ping) [], moves, (s12 [] (ping ∷ []), takes, refl)),
                      ),
                    ),
                  ),
                ),
              ),
            ),
          ),
        ),
      ),
    ),
  ),
  refl,
  refl,
)
