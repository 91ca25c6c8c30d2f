use Rattle.std.proofs.Common.{◌≡◌, ◌++◌, take, flat_map}
use Rattle.jup_resume.specs.Texts.{spelled}
use Rattle.jup_keys.specs.declared.answer.Answer.TheVariants.{Create, Template}
use Rattle.jup_keys.specs.Notes.{answer_text}
use Rattle.jup_keys.proofs.offer.offer_text.Given as goal

-- the templates so far are written
abbrev pub invariant-loop-name : goal.invariant-loop-name
invariant-loop-name l = l.text.items ≡ spelled (answer_text (Create l.fn.makers)) ++ flat_map (λ name. spelled (answer_text (Template name))) (take l.name-index l.names)
