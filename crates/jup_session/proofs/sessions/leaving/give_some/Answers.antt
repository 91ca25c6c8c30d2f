use Rattle.std.proofs.Common.{ℕ, zero, suc, ◌≤◌, ◌<◌, Bool, true, false, not, IsTrue, IsFalse, length, arith, ap, refl, subst, true≢false, sym}
use Rattle.jup_session.specs.Prelude.{view_of, most_fetched}
use Rattle.jup_session.specs.Sessions.{Acknowledges, Few, NotFetched, said_received}
use Rattle.jup_session.proofs.sessions.leaving.give_some.Goals as goal

pub returns-in_default-clause-last : goal.returns-in_default-clause-last
returns-in_default-clause-last g c = λ _. NotFetched c.in_default.field-0 c.in_default.ensures.made

not_below : (n m : ℕ) → (n < m → ⊥) → m ≤ n
not_below n zero never = omega arith
not_below zero (suc m) never = absurd (never (omega arith))
not_below (suc n) (suc m) never = let le = not_below n m (λ below. never (omega (arith, below))) in omega (arith, le)

-- a fetch that was not the last brought as many messages as it asked for
full_so : (b : Bool) (n : ℕ) → (n < most_fetched → IsTrue b) → IsTrue (not b) → most_fetched ≤ n
full_so true n few is = absurd (true≢false (sym is))
full_so false n few is = not_below n most_fetched (λ below. true≢false (sym (few below)))

-- and the last one brought fewer
few_so : (b : Bool) (n : ℕ) → (IsTrue b → n < most_fetched) → IsFalse (not b) → n < most_fetched
few_so true n few is = few refl
few_so false n few is = absurd (true≢false is)

pub returns-clause-some : goal.returns-clause-some
returns-clause-some g c = λ is.
    let same = ap length c.as_slice-2.ensures.messages in (
      c.in-Ok.downs,
      full_so c.is_last_fetch.result (length c.in-Ok.downs) (λ few. c.is_last_fetch.ensures.1 (omega (arith, same, few))) is,
      record {
        between = view_of c.fetch.new.pass;
        fetched = c.in-Ok.ensures.made;
        acknowledged = subst (λ downs. Acknowledges c.args.site (said_received downs) (view_of c.fetch.new.pass) (view_of c.acknowledge.new.pass)) c.as_slice.ensures.messages c.acknowledge.ensures.acknowledged;
      },
    )

pub returns-clause-last : goal.returns-clause-last
returns-clause-last g c = λ is.
    let same = ap length c.as_slice-2.ensures.messages in
    Few c.in-Ok.downs (few_so c.is_last_fetch.result (length c.in-Ok.downs) (λ last. (let below = c.is_last_fetch.ensures.0 last in omega (arith, same, below))) is)
    (record {
      between = view_of c.fetch.new.pass;
      fetched = c.in-Ok.ensures.made;
      acknowledged = subst (λ downs. Acknowledges c.args.site (said_received downs) (view_of c.fetch.new.pass) (view_of c.acknowledge.new.pass)) c.as_slice.ensures.messages c.acknowledge.ensures.acknowledged;
    })
