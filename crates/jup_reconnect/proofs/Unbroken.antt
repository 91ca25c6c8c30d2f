-- A session over connections that break is one of an unbroken link.
use Rattle.std.proofs.Common.{◌≡◌, ◌≢◌, ℕ, List, [], ◌∷◌, ◌++◌, map, Result, Ok, Err, refl, sym, ap, ◌∙◌, subst, inl, inr, append_assoc, append-nil}
use Rattle.jup_resume.specs.Texts.{Text}
use Rattle.jup_lasting.specs.Links.{Link, new_link, after_asking}
use Rattle.jup_lasting.specs.Runs.{Moment, start, Step, Ask, Cut, GiveUp, Put, MoveOut as MovesBytes, Hear, NoteBytes, Elapse, Serve, Restart, Carry, CarryLate, Happens, Leads, lines_of, HearsBytes}
use Rattle.jup_lasting.proofs.OneLink.{one_link}
use Rattle.jup_lasting.specs.declared.carriage.Carriage.{Carriage}
use Rattle.jup_lasting.specs.declared.carriage.Carriage.TheVariants as carriage
use Rattle.jup_lasting.specs.declared.link.Heard.{Heard}
use Rattle.jup_lasting.specs.declared.link.Heard.TheVariants as heard
use Rattle.jup_client.specs.declared.ends.ClientEnd.TheVariants.{Fault}
use Rattle.jup_embed.specs.Sessions.{Session}
use Rattle.jup_reconnect.specs.declared.faults.LastingFault.{LastingFault}
use Rattle.jup_reconnect.specs.Lasting.{Lasting, Handles, left_by}
use Rattle.jup_reconnect.specs.Runs.{Act, Turn, Take, Give, Acts, End, AllTurns, taken_in, given_in, acts_in, Situation, client_of, Call, Feed, MoveOut, OfLink, OfUser, IsOfLink, HearsOn, Passes, noted, IsFed, MovesOn, Does, AllDone, acts_of, IsUnbroken}

-- One after the other.

leads-append : (es fs : List Step) (a b c : Moment) → Leads es a b → Leads fs b c → Leads (es ++ fs) a c
leads-append [] fs a b c one two = subst (λ m. Leads fs m c) one two
leads-append (e ∷ es) fs a b c one two = (one.0, one.1, leads-append es fs one.0 b c one.2 two)

turns-append : (es fs : List Turn) (a b c : Session) → AllTurns es a b → AllTurns fs b c → AllTurns (es ++ fs) a c
turns-append [] fs a b c one two = subst (λ m. AllTurns fs m c) one two
turns-append (e ∷ es) fs a b c one two = (one.0, one.1, turns-append es fs one.0 b c one.2 two)

taken-append : (es fs : List Turn) → taken_in (es ++ fs) ≡ taken_in es ++ taken_in fs
taken-append [] fs = refl
taken-append (Take text ∷ es) fs = ap (λ texts. text ∷ texts) (taken-append es fs)
taken-append (Give texts ∷ es) fs = taken-append es fs
taken-append (Acts act ∷ es) fs = taken-append es fs
taken-append (End end ∷ es) fs = taken-append es fs

given-append : (es fs : List Turn) → given_in (es ++ fs) ≡ given_in es ++ given_in fs
given-append [] fs = refl
given-append (Take text ∷ es) fs = given-append es fs
given-append (Give texts ∷ es) fs = ap (λ more. texts ++ more) (given-append es fs) ∙ sym (append_assoc texts (given_in es) (given_in fs))
given-append (Acts act ∷ es) fs = given-append es fs
given-append (End end ∷ es) fs = given-append es fs

acts-append : (es fs : List Turn) → acts_in (es ++ fs) ≡ acts_in es ++ acts_in fs
acts-append [] fs = refl
acts-append (Take text ∷ es) fs = acts-append es fs
acts-append (Give texts ∷ es) fs = acts-append es fs
acts-append (Acts act ∷ es) fs = ap (λ acts. act ∷ acts) (acts-append es fs)
acts-append (End end ∷ es) fs = acts-append es fs

-- what a call comes to: steps of the link, and turns of the session
record Advances (acts : List Act) (s t : Situation) : Type 0 where
  steps : List Step
  leads : Leads steps s.moment t.moment
  turns : List Turn
  led : AllTurns turns s.session t.session
  took : t.moment.told ≡ s.moment.told ++ taken_in turns
  gave : t.moment.said ≡ s.moment.said ++ given_in turns
  acted : acts_in turns ≡ acts

joined : (us vs : List Act) (s t u : Situation) → Advances us s t → Advances vs t u → Advances (us ++ vs) s u
joined us vs s t u one two = record {
  steps = one.steps ++ two.steps;
  leads = leads-append one.steps two.steps s.moment t.moment u.moment one.leads two.leads;
  turns = one.turns ++ two.turns;
  led = turns-append one.turns two.turns s.session t.session u.session one.led two.led;
  took = two.took ∙ ap (λ told. told ++ taken_in two.turns) one.took ∙ append_assoc s.moment.told (taken_in one.turns) (taken_in two.turns)
      ∙ ap (λ told. s.moment.told ++ told) (sym (taken-append one.turns two.turns));
  gave = two.gave ∙ ap (λ said. said ++ given_in two.turns) one.gave ∙ append_assoc s.moment.said (given_in one.turns) (given_in two.turns)
      ∙ ap (λ said. s.moment.said ++ said) (sym (given-append one.turns two.turns));
  acted = acts-append one.turns two.turns ∙ ap (λ acts. acts ++ acts_in two.turns) one.acted ∙ ap (λ acts. us ++ acts) two.acted;
}

stays : (s t : Situation) → t ≡ s → Advances [] s t
stays s t same = record {
  steps = [];
  leads = ap (λ (x : Situation). x.moment) same;
  turns = [];
  led = ap (λ (x : Situation). x.session) same;
  took = ap (λ (x : Situation). x.moment.told) same ∙ sym (append-nil s.moment.told);
  gave = ap (λ (x : Situation). x.moment.said) same ∙ sym (append-nil s.moment.said);
  acted = refl;
}

-- Steps of the link alone.

quiet_told : (step : Step) (m n : Moment) → IsOfLink step → Happens step m n → n.told ≡ m.told
quiet_told Ask m n is does = ap (λ (x : Moment). x.told) does.1
quiet_told Cut m n is does = ap (λ (x : Moment). x.told) does
quiet_told GiveUp m n is does = absurd is
quiet_told (Put text) m n is does = absurd is
quiet_told (MovesBytes bytes) m n is does = absurd is
quiet_told (Hear piece) m n is does = absurd is
quiet_told NoteBytes m n is does = absurd is
quiet_told (Elapse seconds) m n is does = ap (λ (x : Moment). x.told) does
quiet_told (Serve ups downs) m n is does = ap (λ (x : Moment). x.told) does.2
quiet_told (Restart lost) m n is does = ap (λ (x : Moment). x.told) does.1
quiet_told Carry m n is does = ap (λ (x : Moment). x.told) does.2
quiet_told CarryLate m n is does = ap (λ (x : Moment). x.told) does.1

quiet_said : (step : Step) (m n : Moment) → IsOfLink step → Happens step m n → n.said ≡ m.said
quiet_said Ask m n is does = ap (λ (x : Moment). x.said) does.1
quiet_said Cut m n is does = ap (λ (x : Moment). x.said) does
quiet_said GiveUp m n is does = absurd is
quiet_said (Put text) m n is does = absurd is
quiet_said (MovesBytes bytes) m n is does = absurd is
quiet_said (Hear piece) m n is does = absurd is
quiet_said NoteBytes m n is does = absurd is
quiet_said (Elapse seconds) m n is does = ap (λ (x : Moment). x.said) does
quiet_said (Serve ups downs) m n is does = ap (λ (x : Moment). x.said) does.2
quiet_said (Restart lost) m n is does = ap (λ (x : Moment). x.said) does.1
quiet_said Carry m n is does = ap (λ (x : Moment). x.said) does.2
quiet_said CarryLate m n is does = ap (λ (x : Moment). x.said) does.1

of_link : (step : Step) (s t : Situation) → Does (OfLink step) s t → Advances [] s t
of_link step s t does = record {
  steps = step ∷ [];
  leads = (t.moment, does.1, refl);
  turns = [];
  led = ap (λ (x : Situation). x.session) does.2;
  took = quiet_told step s.moment t.moment does.0 does.1 ∙ sym (append-nil s.moment.told);
  gave = quiet_said step s.moment t.moment does.0 does.1 ∙ sym (append-nil s.moment.said);
  acted = refl;
}

of_user : (act : Act) (s t : Situation) → Does (OfUser act) s t → Advances (act ∷ []) s t
of_user act s t does = record {
  steps = [];
  leads = ap (λ (x : Situation). x.moment) does.1;
  turns = Acts act ∷ [];
  led = (t.session, does.0, refl);
  took = ap (λ (x : Situation). x.moment.told) does.1 ∙ sym (append-nil s.moment.told);
  gave = ap (λ (x : Situation). x.moment.said) does.1 ∙ sym (append-nil s.moment.said);
  acted = refl;
}

-- Bytes that come.

hears_told : (piece rest : List ℕ) (h : Heard) (m n : Moment) → HearsBytes piece h rest m n → n.told ≡ m.told ++ lines_of h
hears_told piece rest h m n (inl carrier) = ap (λ (x : Moment). x.told) carrier.same
hears_told piece rest h m n (inr (inl other)) = ap (λ (x : Moment). x.told) other.same
hears_told piece rest h m n (inr (inr nothing)) = ap (λ (x : Moment). x.told) nothing.same

hears_said : (piece rest : List ℕ) (h : Heard) (m n : Moment) → HearsBytes piece h rest m n → n.said ≡ m.said
hears_said piece rest h m n (inl carrier) = ap (λ (x : Moment). x.said) carrier.same
hears_said piece rest h m n (inr (inl other)) = ap (λ (x : Moment). x.said) other.same
hears_said piece rest h m n (inr (inr nothing)) = ap (λ (x : Moment). x.said) nothing.same

-- the link is given up, or stays
record Leaves (m n : Moment) : Type 0 where
  steps : List Step
  leads : Leads steps m n

left : (c : Carriage) (m n : Moment) → n ≡ record m { link = left_by c m.link } → Leaves m n
left carriage.Cut m n same = record { steps = []; leads = same }
left carriage.Asking m n same = record { steps = []; leads = same }
left carriage.Carried m n same = record { steps = GiveUp ∷ []; leads = (n, same, refl) }
left carriage.Last m n same = record { steps = []; leads = same }
left carriage.Over m n same = record { steps = []; leads = same }

-- what was heard is done
record Handled (h : Heard) (m n : Moment) (c d : Session) : Type 0 where
  leaves : Leaves m n
  turns : List Turn
  led : AllTurns turns c d
  lines : taken_in turns ≡ lines_of h
  none : given_in turns ≡ []
  idle : acts_in turns ≡ []

kept : (m n : Moment) → n ≡ record m { link = n.link } → n.link ≡ m.link → Leaves m n
kept m n rest same = record { steps = []; leads = rest ∙ ap (λ (l : Link). record m { link = l }) same }

line_handled : (text : Text) (r : Result (Unit {0}) LastingFault) (s t : Situation) (middle : Moment) → t.moment ≡ record middle { link = t.moment.link }
    → Handles (heard.Line text) (record (client_of s) { link = middle.link }) r (client_of t) → Handled (heard.Line text) middle t.moment s.session t.session
line_handled text (Ok done) s t middle rest takes = record {
  leaves = kept middle t.moment rest (ap (λ (c : Lasting). c.link) takes.3);
  turns = Take text ∷ [];
  led = (t.session, inl takes.2, refl);
  lines = refl;
  none = refl;
  idle = refl;
}
line_handled text (Err fault) s t middle rest takes = record {
  leaves = left middle.link.carriage middle t.moment (rest ∙ ap (λ (l : Link). record middle { link = l }) (ap (λ (c : Lasting). c.link) takes.5));
  turns = Take text ∷ [];
  led = (t.session, inr (takes.0, takes.4), refl);
  lines = refl;
  none = refl;
  idle = refl;
}

handled : (h : Heard) (r : Result (Unit {0}) LastingFault) (s t : Situation) (middle : Moment) → h ≢ heard.Begins → t.moment ≡ record middle { link = t.moment.link }
    → Handles h (record (client_of s) { link = middle.link }) r (client_of t) → Handled h middle t.moment s.session t.session
handled heard.Nothing r s t middle one rest handles = record {
  leaves = kept middle t.moment rest (ap (λ (c : Lasting). c.link) handles.1);
  turns = [];
  led = ap (λ (c : Lasting). c.session) handles.1;
  lines = refl;
  none = refl;
  idle = refl;
}
handled (heard.Line text) r s t middle one rest handles = line_handled text r s t middle rest handles
handled (heard.LongLine text) r s t middle one rest handles = record {
  leaves = kept middle t.moment rest (ap (λ (c : Lasting). c.link) handles.1);
  turns = End (Fault 41) ∷ [];
  led = (t.session, ap (λ (c : Lasting). c.session) handles.1, refl);
  lines = refl;
  none = refl;
  idle = refl;
}
handled heard.Lost r s t middle one rest handles = record {
  leaves = kept middle t.moment rest (ap (λ (c : Lasting). c.link) handles.1);
  turns = [];
  led = ap (λ (c : Lasting). c.session) handles.1;
  lines = refl;
  none = refl;
  idle = refl;
}
handled heard.Begins r s t middle one rest handles = absurd (one refl)
handled (heard.Over number) r s t middle one rest handles = record {
  leaves = kept middle t.moment rest (ap (λ (c : Lasting). c.link) handles.1);
  turns = End (Fault number) ∷ [];
  led = (t.session, ap (λ (c : Lasting). c.session) handles.1, refl);
  lines = refl;
  none = refl;
  idle = refl;
}

hears_on : (piece : List ℕ) (r : Result (Unit {0}) LastingFault) (rest : List ℕ) (s t : Situation) → HearsOn piece r rest s t → Advances [] s t
hears_on piece r rest s t hears =
    let does = handled hears.h r s t hears.middle hears.one_link hears.rest_same hears.handles in
    record {
      steps = Hear piece ∷ does.leaves.steps;
      leads = (hears.middle, (hears.h, rest, hears.hears), does.leaves.leads);
      turns = does.turns;
      led = does.led;
      took = ap (λ (x : Moment). x.told) hears.rest_same ∙ hears_told piece rest hears.h s.moment hears.middle hears.hears ∙ ap (λ lines. s.moment.told ++ lines) (sym does.lines);
      gave = ap (λ (x : Moment). x.said) hears.rest_same ∙ hears_said piece rest hears.h s.moment hears.middle hears.hears ∙ sym (append-nil s.moment.said)
          ∙ ap (λ lines. s.moment.said ++ lines) (sym does.none);
      acted = does.idle;
    }

passed : (lefts : List (List ℕ)) (bytes rest : List ℕ) (s t : Situation) → Passes lefts bytes rest s t → Advances [] s t
passed [] bytes rest s t passes = stays s t passes.1
passed (first ∷ lefts) bytes rest s t passes =
    joined [] [] s passes.0 t (hears_on bytes (Ok tt) first s passes.0 passes.1) (passed lefts first rest passes.0 t passes.2)

notes : (bytes : List ℕ) (s : Situation) → Advances [] s (noted bytes s)
notes [] s = stays s s refl
notes (byte ∷ bytes) s = record {
  steps = NoteBytes ∷ [];
  leads = ((noted (byte ∷ bytes) s).moment, refl, refl);
  turns = [];
  led = refl;
  took = sym (append-nil s.moment.told);
  gave = sym (append-nil s.moment.said);
  acted = refl;
}

feeds : (bytes : List ℕ) (s t : Situation) → IsFed bytes s t → Advances [] s t
feeds bytes s t fed =
    let first = joined [] [] s (noted bytes s) fed.middle (notes bytes s) (passed fed.lefts bytes fed.left (noted bytes s) fed.middle fed.passes) in
    elim fed.ends [
      | inl all ↦ subst (λ x. Advances [] s x) (sym all.1) first
      | inr refused ↦ joined [] [] s fed.middle t first (hears_on fed.left (Err refused.0) refused.1 fed.middle t refused.2)
    ]

-- Bytes that go out.

puts_told : (texts : List Text) (bytes : List ℕ) (m n : Moment) → Leads (map Put texts ++ MovesBytes bytes ∷ []) m n → n.told ≡ m.told
puts_told [] bytes m n leads = ap (λ (x : Moment). x.told) leads.2 ∙ ap (λ (x : Moment). x.told) leads.1.1
puts_told (text ∷ texts) bytes m n leads = puts_told texts bytes leads.0 n leads.2 ∙ ap (λ (x : Moment). x.told) leads.1.1

puts_said : (texts : List Text) (bytes : List ℕ) (m n : Moment) → Leads (map Put texts ++ MovesBytes bytes ∷ []) m n → n.said ≡ m.said ++ texts
puts_said [] bytes m n leads = ap (λ (x : Moment). x.said) leads.2 ∙ ap (λ (x : Moment). x.said) leads.1.1 ∙ sym (append-nil m.said)
puts_said (text ∷ texts) bytes m n leads =
    puts_said texts bytes leads.0 n leads.2 ∙ ap (λ (x : Moment). x.said ++ texts) leads.1.1 ∙ append_assoc m.said (text ∷ []) texts

moves : (bytes : List ℕ) (s t : Situation) → MovesOn bytes s t → Advances [] s t
moves bytes s t moved =
    let texts = moved.puts.texts in
    let session : t.session ≡ moved.middle.session = ap (λ (c : Lasting). c.session) moved.same in
    record {
      steps = map Put texts ++ MovesBytes bytes ∷ [];
      leads = moved.leads;
      turns = Give texts ∷ [];
      led = (moved.middle.session, (moved.puts.said, moved.puts.session), session);
      took = puts_told texts bytes s.moment t.moment moved.leads ∙ sym (append-nil s.moment.told);
      gave = puts_said texts bytes s.moment t.moment moved.leads ∙ ap (λ lines. s.moment.said ++ lines) (sym (append-nil texts));
      acted = refl;
    }

-- Calls.

abbrev acts_by : Call → List Act
acts_by call = acts_of (call ∷ [])

advances : (call : Call) (s t : Situation) → Does call s t → Advances (acts_by call) s t
advances (Feed bytes) s t does = feeds bytes s t does
advances (MoveOut bytes) s t does = moves bytes s t does
advances (OfLink step) s t does = of_link step s t does
advances (OfUser act) s t does = of_user act s t does

acts_first : (call : Call) (calls : List Call) → acts_by call ++ acts_of calls ≡ acts_of (call ∷ calls)
acts_first (Feed bytes) calls = refl
acts_first (MoveOut bytes) calls = refl
acts_first (OfLink step) calls = refl
acts_first (OfUser act) calls = refl

all_advance : (calls : List Call) (s t : Situation) → AllDone calls s t → Advances (acts_of calls) s t
all_advance [] s t done = stays s t done
all_advance (call ∷ calls) s t done =
    subst (λ acts. Advances acts s t) (acts_first call calls)
    (joined (acts_by call) (acts_of calls) s done.0 t (advances call s done.0 done.1) (all_advance calls done.0 t done.2))

-- the first step of a link is to ask
asked : (m : Moment) → m ≡ record start { link = after_asking new_link } → Leads (Ask ∷ []) start m
asked m first = (m, (refl, first), refl)

pub unbroken : (s t : Situation) (calls : List Call) → s.moment ≡ record start { link = after_asking new_link } → AllDone calls s t → IsUnbroken s.session calls t
unbroken s t calls first done =
    let all = all_advance calls s t done in
    record {
      turns = all.turns;
      led = all.led;
      took = sym (all.took ∙ ap (λ (m : Moment). m.told ++ taken_in all.turns) first);
      gave = sym (all.gave ∙ ap (λ (m : Moment). m.said ++ given_in all.turns) first);
      acted = all.acted;
      link = one_link (Ask ∷ all.steps) t.moment (leads-append (Ask ∷ []) all.steps start s.moment t.moment (asked s.moment first) all.leads);
    }
