-- A run in which the connection breaks within a line each way.
use Rattle.std.proofs.Common.{◌≡◌, ◌≢◌, ℕ, ◌<◌, nat_eq, Bool, true, false, ◌&&◌, not, List, [], ◌∷◌, ◌++◌, length, replicate, Option, None, Some, refl, sym, ap, subst, arith, true≢false, inl, inr, codes, lit<, lit≤}
use Rattle.std.specs.Fmt.{digits}
use Rattle.std.proofs.lemmas.Bool.Decides.{nat_tests}
use Rattle.std.proofs.lemmas.List.{get_or-replicate}
use Rattle.jup_resume.specs.Texts.{Text, HasNoFeed, spelled}
use Rattle.jup_resume.specs.Tokens.{IsTokenDigit, IsTokenText}
use Rattle.jup_resume.specs.Keepers.{Keeping}
use Rattle.jup_resume.specs.Notes.{note_text}
use Rattle.jup_resume.specs.Takers.{EndsLine}
use Rattle.jup_resume.specs.FirstLines.{IsNoNote}
use Rattle.jup_resume.specs.Ways.{Way, new_way, comes, Puts, Stores, Writes, Notes, Begins, Hears, Saves, Tells}
use Rattle.jup_resume.specs.declared.note.Note.TheVariants.{Hello, Link as OpensLink, Resume, Resumed as SaysResumed, Ended as SaysEnded, Got}
use Rattle.jup_resume.specs.declared.taker.Arrival.TheVariants.{Part, Note as IsNoteLine, Line as IsLine}
use Rattle.jup_lasting.specs.declared.line_kind.LineKind.TheVariants as kind
use Rattle.jup_lasting.specs.declared.first_answer.FirstAnswer.TheVariants as answer
use Rattle.jup_lasting.specs.declared.link.Heard.TheVariants as heard
use Rattle.jup_lasting.specs.declared.terms.Terms.{Terms}
use Rattle.jup_lasting.specs.declared.carriage.Carriage.{Carriage}
use Rattle.jup_lasting.specs.declared.carriage.Carriage.TheVariants.{Cut, Asking, Carried}
use Rattle.jup_lasting.specs.Links.{Link, OwesGot}
use Rattle.jup_lasting.specs.Runs.{Connection, Silent, Carrier, Moment, start, MoveOut, Serve, Hear, Put, Happens, Leads, welcoming, cut_run}

-- Lines.

unfoldable pub lacks_feed : List ℕ → Bool
lacks_feed [] = true
lacks_feed (b ∷ bytes) = not (nat_eq b 10) && lacks_feed bytes

other_byte : (b : ℕ) (more : Bool) → (not (nat_eq b 10) && more) ≡ true → (b ≢ 10) × (more ≡ true)
other_byte b true is = ((λ e. grind (arith, nat_tests)), refl)
other_byte b false is = grind (arith, nat_tests)

pub no_feed : (bytes : List ℕ) → lacks_feed bytes ≡ true → HasNoFeed bytes
unfolding lacks_feed
no_feed [] is = tt
no_feed (b ∷ bytes) is = let both = other_byte b (lacks_feed bytes) is in (both.0, no_feed bytes both.1)

pub ends : (text rest : List ℕ) → lacks_feed text ≡ true → length text < 256 → EndsLine [] (text ++ 10 ∷ rest) [] rest text
ends text rest free short = record {
  behind = text;
  cut = record { first = no_feed text free; whole = refl };
  whole = refl;
  open_ended = no_feed text free;
  short = short;
  part = refl;
}

abbrev pub ready : Text
ready = codes "ready"

abbrev pub ping : Text
ping = codes "ping 1"

abbrev pub terms : Terms
terms = record { token = replicate 32 48; seconds = 300; kept = false }

pub is_token : IsTokenText (replicate 32 48)
is_token = record {
  long = refl;
  digits = λ k d below. subst IsTokenDigit (sym (get_or-replicate 32 k 48 d below)) (inl (lit≤ tt, lit≤ tt));
}

-- `ready` is no note: its third byte differs from that of each

third : List ℕ → ℕ
third [] = 0
third (a ∷ []) = 0
third (a ∷ (b ∷ [])) = 0
third (a ∷ (b ∷ (c ∷ bytes))) = c

not_third : (a b : List ℕ) → third a ≢ third b → a ≢ b
not_third a b other same = other (ap third same)

pub no_note : IsNoNote ready
unfolding third
no_note Hello is = not_third ready (note_text Hello) (λ e. omega (arith, e))
no_note (OpensLink t seconds kept) is = not_third ready (note_text (OpensLink t seconds kept)) (λ e. omega (arith, e))
no_note (Resume t taken) is = not_third ready (note_text (Resume t taken)) (λ e. omega (arith, e))
no_note (SaysResumed taken) is = not_third ready (note_text (SaysResumed taken)) (λ e. omega (arith, e))
no_note (SaysEnded taken) is = not_third ready (note_text (SaysEnded taken)) (λ e. omega (arith, e))
no_note (Got taken) is = not_third ready (note_text (Got taken)) (λ e. omega (arith, e))

-- The moments of the run.

abbrev pub keeping : List Text → ℕ → Bool → Keeping
keeping kept sent is_open = record { dropped = 0; kept = kept; sent = sent; is_open = is_open }

abbrev link : Keeping → List ℕ → Carriage → List ℕ → Option Terms → Link
link up part carriage waiting opened = record {
  up = up;
  down = record { part = part; taken = 0 };
  confirming = record { taken = 0; told = 0; quiet = 0; is_owed = false };
  carriage = carriage;
  waiting = waiting;
  terms = opened;
  is_ready = false;
  lines = length up.kept;
  edits = 0;
  arrived = None;
  silence = 0;
}

abbrev way : List Text → Keeping → List ℕ → List ℕ → Option ℕ → Way
way put keeper wire part place =
    record { put = put; keeper = keeper; stored = length put; wire = wire; part = part; handed = []; safe = 0; counts = []; place = place }

abbrev moment : Link → Way → Way → Connection → Moment
moment l up down connection = record { link = l; ways = record { up = up; down = down }; connection = connection; said = up.put; told = [] }

abbrev asked : Moment
asked = moment (link (keeping [] 0 false) [] Asking (spelled (note_text Hello)) None) new_way new_way Silent

abbrev greeted : Moment
greeted = moment (link (keeping [] 0 false) [] Asking [] None) new_way new_way Silent

abbrev carried : Moment
carried = moment (link (keeping [] 0 false) [] Asking [] None) (way [] (keeping [] 0 false) [] [] (Some 0)) (way [] (keeping [] 0 false) [] [] (Some 0)) Carrier

abbrev served : Moment
served = moment (link (keeping [] 0 false) [] Asking [] None) (way [] (keeping [] 0 false) [] [] (Some 0))
    (way (ready ∷ []) (keeping (ready ∷ []) 1 true) (spelled (note_text welcoming) ++ spelled ready) [] None) Carrier

abbrev opened : Moment
opened = moment (link (keeping [] 0 true) [] Carried [] (Some terms)) (way [] (keeping [] 0 true) [] [] None)
    (way (ready ∷ []) (keeping (ready ∷ []) 1 true) (spelled ready) [] None) Carrier

abbrev half_told : Moment
half_told = moment (link (keeping [] 0 true) (codes "rea") Carried [] (Some terms)) (way [] (keeping [] 0 true) [] [] None)
    (way (ready ∷ []) (keeping (ready ∷ []) 1 true) (spelled (codes "dy")) (codes "rea") None) Carrier

abbrev pinged : Moment
pinged = moment (link (keeping (ping ∷ []) 0 true) (codes "rea") Carried [] (Some terms)) (way (ping ∷ []) (keeping (ping ∷ []) 0 true) [] [] None)
    (way (ready ∷ []) (keeping (ready ∷ []) 1 true) (spelled (codes "dy")) (codes "rea") None) Carrier

abbrev half_said : Moment
half_said = moment (link (keeping (ping ∷ []) 1 true) (codes "rea") Carried (spelled (codes "ng 1")) (Some terms))
    (way (ping ∷ []) (keeping (ping ∷ []) 1 true) (spelled ping) [] None)
    (way (ready ∷ []) (keeping (ready ∷ []) 1 true) (spelled (codes "dy")) (codes "rea") None) Carrier

abbrev half_heard : Moment
half_heard = moment (link (keeping (ping ∷ []) 1 true) (codes "rea") Carried (spelled (codes "ng 1")) (Some terms))
    (way (ping ∷ []) (keeping (ping ∷ []) 1 true) (spelled (codes "ng 1")) (codes "pi") None)
    (way (ready ∷ []) (keeping (ready ∷ []) 1 true) (spelled (codes "dy")) (codes "rea") None) Carrier

abbrev cut : Carriage → List ℕ → Moment
cut carriage waiting = moment (link (keeping (ping ∷ []) 0 false) [] carriage waiting (Some terms))
    (way (ping ∷ []) (keeping (ping ∷ []) 1 true) (spelled (codes "ng 1")) (codes "pi") None)
    (way (ready ∷ []) (keeping (ready ∷ []) 1 true) (spelled (codes "dy")) (codes "rea") None) Silent

abbrev carried_again : Moment
carried_again = moment (link (keeping (ping ∷ []) 0 false) [] Asking [] (Some terms)) (way (ping ∷ []) (keeping (ping ∷ []) 0 false) [] [] (Some 0))
    (way (ready ∷ []) (keeping (ready ∷ []) 0 false) [] [] (Some 0)) Carrier

abbrev served_again : Moment
served_again = moment (link (keeping (ping ∷ []) 0 false) [] Asking [] (Some terms)) (way (ping ∷ []) (keeping (ping ∷ []) 0 false) [] [] (Some 0))
    (way (ready ∷ []) (keeping (ready ∷ []) 1 true) (spelled (note_text (SaysResumed 0)) ++ spelled ready) [] None) Carrier

-- the client owes a `got`, as after each beginning
abbrev owing : Link
owing = record (link (keeping (ping ∷ []) 0 true) [] Carried [] (Some terms)) { confirming = record { taken = 0; told = 0; quiet = 0; is_owed = true } }

abbrev resumed : Moment
resumed = moment owing (way (ping ∷ []) (keeping (ping ∷ []) 0 true) [] [] None) (way (ready ∷ []) (keeping (ready ∷ []) 1 true) (spelled ready) [] None) Carrier

abbrev is_told : Moment
is_told = record (moment (record owing { down = record { part = []; taken = 1 }; confirming = record { taken = 1; told = 0; quiet = 0; is_owed = true }; is_ready = true })
    (way (ping ∷ []) (keeping (ping ∷ []) 0 true) [] [] None)
    (record (way (ready ∷ []) (keeping (ready ∷ []) 1 true) [] [] None) { handed = ready ∷ [] }) Carrier) { told = ready ∷ [] }

abbrev confirming : Link
confirming = record owing {
  up = keeping (ping ∷ []) 0 true;
  down = record { part = []; taken = 1 };
  confirming = record { taken = 1; told = 1; quiet = 0; is_owed = false };
  waiting = spelled (note_text (Got 1));
  is_ready = true;
}

abbrev is_said : Moment
is_said = record (moment (record confirming { up = keeping (ping ∷ []) 1 true; waiting = [] })
    (way (ping ∷ []) (keeping (ping ∷ []) 1 true) (spelled (note_text (Got 1)) ++ spelled ping) [] None)
    (record (way (ready ∷ []) (keeping (ready ∷ []) 1 true) [] [] None) { handed = ready ∷ []; safe = 1; counts = 1 ∷ [] }) Carrier) { told = ready ∷ [] }

abbrev taken : Moment
taken = record (moment (record confirming { up = keeping (ping ∷ []) 1 true; waiting = [] })
    (record (way (ping ∷ []) (keeping (ping ∷ []) 1 true) [] [] None) { handed = ping ∷ []; safe = 1; counts = 1 ∷ [] })
    (record (way (ready ∷ []) (record { dropped = 1; kept = []; sent = 0; is_open = true }) (spelled (note_text (Got 1))) [] None) { handed = ready ∷ []; safe = 1 }) Carrier) {
      told = ready ∷ [];
    }

abbrev whole : Moment
whole = record (moment (record confirming { up = record { dropped = 1; kept = []; sent = 0; is_open = true }; waiting = [] })
    (record (way (ping ∷ []) (record { dropped = 1; kept = []; sent = 0; is_open = true }) [] [] None) { handed = ping ∷ []; safe = 1 })
    (record (way (ready ∷ []) (record { dropped = 1; kept = []; sent = 0; is_open = true }) [] [] None) { handed = ready ∷ []; safe = 1 }) Carrier) { told = ready ∷ [] }

-- Its steps.

pub not_owed : false ≡ true → ⊥
not_owed e = true≢false (sym e)

opens : Happens (Serve [] (Begins ∷ Notes (note_text welcoming) ∷ Puts ready ∷ Stores ∷ Writes ∷ [])) carried served
unfolding digits lacks_feed
opens = (tt, (tt, ((no_feed (note_text welcoming) refl, refl), ((no_feed ready refl, refl), (tt, (tt, tt))))), refl)

hears_link : Happens (Hear (spelled (note_text welcoming))) served opened
unfolding digits lacks_feed
hears_link = (
  heard.Nothing,
  [],
  inl (record {
    more = spelled ready;
    hears = (
      IsNoteLine welcoming,
      [],
      ((is_token, lit< tt), ends (note_text welcoming) [] refl (lit< tt)),
      (answer.Opened terms, inl (lit≤ tt, refl), inl (record { low = lit≤ tt; high = lit≤ tt }, (refl, refl))),
    );
    carrier = refl;
    brought = refl;
    honest = (lit≤ tt, refl);
    up = refl;
    down = refl;
    same = refl;
  }),
)

hears_part : Happens (Hear (codes "rea")) opened half_told
unfolding digits lacks_feed
hears_part = (
  heard.Nothing,
  [],
  inl (record {
    more = spelled (codes "dy");
    hears = (Part, codes "rea", record { part = refl; is_part = record { short = lit< tt; open_ended = no_feed (codes "rea") refl }; all = refl }, (refl, refl));
    carrier = refl;
    brought = refl;
    honest = tt;
    up = refl;
    down = refl;
    same = refl;
  }),
)

says_ping : Happens (Put ping) half_told pinged
unfolding lacks_feed
says_ping = ((no_feed ping refl, refl), refl)

owes_none : OwesGot pinged.link → ⊥
owes_none owes = elim owes.1 [
  | inl owed ↦ not_owed owed
  | inr (inl many) ↦ omega (arith, many)
  | inr (inr quiet) ↦ omega (arith, quiet)
]

hands_part : Happens (MoveOut (codes "pi")) pinged half_said
hands_part = (
  (
    half_said.link,
    (
      codes "pi" ∷ [],
      (
        half_said.link,
        (
          record half_said.link { waiting = spelled ping },
          inr (refl, inr (owes_none, refl, record { line = spelled ping; next = record { is_open = refl; text = ping; rest = []; left = refl; whole = refl }; wrote = refl; appended = refl }, refl)),
          refl,
          refl,
        ),
        refl,
      ),
      refl,
    ),
    refl,
  ),
  refl,
)

takes_part : Happens (Serve (comes 2) []) half_said half_heard
takes_part = ((tt, (tt, tt)), tt, refl)

opens_again : Happens (Serve [] (Begins ∷ Notes (note_text (SaysResumed 0)) ∷ Writes ∷ [])) carried_again served_again
unfolding digits lacks_feed
opens_again = (tt, (tt, ((no_feed (note_text (SaysResumed 0)) refl, refl), (tt, tt))), refl)

hears_resumed : Happens (Hear (spelled (note_text (SaysResumed 0)))) served_again resumed
unfolding digits lacks_feed
hears_resumed = (
  heard.Nothing,
  [],
  inl (record {
    more = spelled ready;
    hears = (
      IsNoteLine (SaysResumed 0),
      [],
      (lit< tt, ends (note_text (SaysResumed 0)) [] refl (lit< tt)),
      (answer.Resumed 0, refl, inl (record { low = lit≤ tt; high = lit≤ tt }, (refl, refl))),
    );
    carrier = refl;
    brought = refl;
    honest = refl;
    up = refl;
    down = refl;
    same = refl;
  }),
)

hears_line : Happens (Hear (spelled ready)) resumed is_told
unfolding lacks_feed
hears_line = (
  heard.Line ready,
  [],
  inl (record {
    more = [];
    hears = (IsLine ready, [], (no_note, ends ready [] refl (lit< tt)), inl (lit< tt, refl, (kind.Ready, refl, refl)));
    carrier = refl;
    brought = refl;
    honest = (refl, lit< tt);
    up = refl;
    down = refl;
    same = refl;
  }),
)

owes_no_more : OwesGot (record confirming { waiting = [] }) → ⊥
owes_no_more owes = elim owes.1 [
  | inl owed ↦ not_owed owed
  | inr (inl many) ↦ omega (arith, many)
  | inr (inr quiet) ↦ omega (arith, quiet)
]

hands_whole : Happens (MoveOut (spelled (note_text (Got 1)) ++ spelled ping)) is_told is_said
unfolding digits
hands_whole = (
  (
    is_said.link,
    (
      spelled (note_text (Got 1)) ∷ spelled ping ∷ [],
      (
        record confirming { waiting = [] },
        (confirming, inr (refl, inl ((tt, inl refl), refl)), refl, refl),
        (
          is_said.link,
          (
            record is_said.link { waiting = spelled ping },
            inr (refl, inr (owes_no_more, refl, record { line = spelled ping; next = record { is_open = refl; text = ping; rest = []; left = refl; whole = refl }; wrote = refl; appended = refl }, refl)),
            refl,
            refl,
          ),
          refl,
        ),
      ),
      refl,
    ),
    refl,
  ),
  refl,
)

takes_whole : Happens (Serve (comes 13 ++ Saves ∷ Tells ∷ []) (Hears ∷ Notes (note_text (Got 1)) ∷ [])) is_said taken
unfolding digits lacks_feed
takes_whole =
    ((tt, (tt, (tt, (tt, (tt, (tt, (tt, (tt, (tt, (tt, (tt, (tt, (tt, (tt, (tt, tt))))))))))))))), (tt, ((no_feed (note_text (Got 1)) refl, refl), tt)), refl)

hears_got : Happens (Hear (spelled (note_text (Got 1)))) taken whole
unfolding digits lacks_feed
hears_got = (
  heard.Nothing,
  [],
  inl (record {
    more = [];
    hears = (
      IsNoteLine (Got 1),
      [],
      (lit< tt, ends (note_text (Got 1)) [] refl (lit< tt)),
      inl (record { low = lit≤ tt; high = lit≤ tt }, (refl, refl)),
    );
    carrier = refl;
    brought = refl;
    honest = refl;
    up = refl;
    down = refl;
    same = refl;
  }),
)

hands_greeting : Happens (MoveOut (spelled (note_text Hello))) asked greeted
hands_greeting = (
  (greeted.link, (spelled (note_text Hello) ∷ [], (greeted.link, (asked.link, inl ((λ e. absurd cc), refl), refl, refl), refl), refl), refl),
  refl,
)

hands_resume : Happens (MoveOut (spelled (note_text (Resume (replicate 32 48) 0)))) (cut Asking (spelled (note_text (Resume (replicate 32 48) 0)))) (cut Asking [])
unfolding digits
hands_resume = (
  (
    (cut Asking []).link,
    (
      spelled (note_text (Resume (replicate 32 48) 0)) ∷ [],
      ((cut Asking []).link, ((cut Asking (spelled (note_text (Resume (replicate 32 48) 0)))).link, inl ((λ e. absurd cc), refl), refl, refl), refl),
      refl,
    ),
    refl,
  ),
  refl,
)

pub run_exists : (m : Moment) × Leads cut_run start m × (m.told ≡ ready ∷ []) × (m.ways.up.handed ≡ ping ∷ []) × (m.link.up.kept ≡ []) × (m.ways.down.keeper.kept ≡ [])
run_exists = (
  whole,
  (
    asked,
    (refl, refl),
    (
      greeted,
      hands_greeting,
      (
        carried,
        (refl, refl, refl),
        (
          served,
          opens,
          (
            opened,
            hears_link,
            (
              half_told,
              hears_part,
              (
                pinged,
                says_ping,
                (
                  half_said,
                  hands_part,
                  (
                    half_heard,
                    takes_part,
                    (
                      cut Cut [],
                      refl,
                      (
                        cut Asking (spelled (note_text (Resume (replicate 32 48) 0))),
                        (refl, refl),
                        (
                          cut Asking [],
                          hands_resume,
                          (
                            carried_again,
                            (refl, refl, refl),
                            (
                              served_again,
                              opens_again,
                              (
                                resumed,
                                hears_resumed,
                                (
                                  is_told,
                                  hears_line,
                                  (is_said, hands_whole, (taken, takes_whole, (whole, hears_got, refl))),
                                ),
                              ),
                            ),
                          ),
                        ),
                      ),
                    ),
                  ),
                ),
              ),
            ),
          ),
        ),
      ),
    ),
  ),
  refl,
  refl,
  refl,
  refl,
)
