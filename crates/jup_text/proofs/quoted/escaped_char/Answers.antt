use Rattle.std.proofs.Common.{inl, inr, refl, rules}
use Rattle.jup_text.proofs.Quotes.{mark_read, unescaped}
use Rattle.jup_text.proofs.quoted.escaped_char.Goals as goal
use Rattle.jup_text.proofs.quoted.escaped_char.Goals.{then-text-lt2+in-92-1, else-text-lt2+in-92-1, then-text-lt2+in-34-1, else-text-lt2+in-34-1, in_default-via-then-text-lt1, in_default-via-else-text-lt1+then-text-lt2+in_default-1, in_default-via-else-text-lt1+else-text-lt2+in-117+in_default-1, in_default-via-else-text-lt1+else-text-lt2+in_default-1}

pub returns-in-92-clause-read : goal.returns-in-92-clause-read
returns-in-92-clause-read c =
    elim c.in-92-1.branch [
      | then-text-lt2+in-92-1 w ↦ (refl, mark_read c.args.text.now 92 (inr refl) (search rules) (search rules))
      | else-text-lt2+in-92-1 w ↦ (refl, mark_read c.args.text.now 92 (inr refl) (search rules) (search rules))
    ]

pub returns-in-34-clause-read : goal.returns-in-34-clause-read
returns-in-34-clause-read c =
    elim c.in-34-1.branch [
      | then-text-lt2+in-34-1 w ↦ (refl, mark_read c.args.text.now 34 (inl refl) (search rules) (search rules))
      | else-text-lt2+in-34-1 w ↦ (refl, mark_read c.args.text.now 34 (inl refl) (search rules) (search rules))
    ]

pub returns-in_default-clause-none : goal.returns-in_default-clause-none
returns-in_default-clause-none c =
    elim c.in_default.branch [
      | in_default-via-then-text-lt1 w ↦ unescaped c.args.text.now (λ some e. absurd (search rules)) (λ some e. absurd (search rules)) (λ some e f. absurd (search rules))
      | in_default-via-else-text-lt1+then-text-lt2+in_default-1 w ↦ unescaped c.args.text.now (λ some e. absurd (search rules)) (λ some e. absurd (search rules)) (λ some e f. absurd (search rules))
      | in_default-via-else-text-lt1+else-text-lt2+in-117+in_default-1 w ↦ unescaped c.args.text.now (λ some e. absurd (search rules)) (λ some e. absurd (search rules)) (λ some e f. absurd (search rules))
      | in_default-via-else-text-lt1+else-text-lt2+in_default-1 w ↦ unescaped c.args.text.now (λ some e. absurd (search rules)) (λ some e. absurd (search rules)) (λ some e f. absurd (search rules))
    ]
