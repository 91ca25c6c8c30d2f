-- What a link hears, and what follows.
use Rattle.std.proofs.Common.{◌≡◌, ℕ, Bool, List, subst, is_some}
use Rattle.jup_lasting.specs.Links.{Link, HearsPiece}
use Rattle.jup_lasting.specs.declared.carriage.Carriage.{Carriage}
use Rattle.jup_lasting.specs.declared.link.Heard.{Heard}
use Rattle.jup_redial.specs.Redialed.{Shared, Follows, Hears}

-- a link that is silent no more hears a piece
pub link_heard : (piece rest : List ℕ) (a b : Shared) (noted : Link) (h : Heard) (d : Link) → b ≡ a → noted ≡ record b.link { silence = 0 } → HearsPiece piece noted h rest d
    → HearsPiece piece (record a.link { silence = 0 }) h rest d
link_heard piece rest a b noted h d same silent heard =
    subst (λ (s : Shared). HearsPiece piece (record s.link { silence = 0 }) h rest d) same (subst (λ (l : Link). HearsPiece piece l h rest d) silent heard)

-- what follows is by how the link was carried before, and whether it was open
pub all_heard : (piece : List ℕ) (now : ℕ) (s m : Shared) (h : Heard) (rest : List ℕ) (was : Carriage) (opened : Bool) (t : Shared) → was ≡ s.link.carriage → opened ≡ is_some s.link.terms
    → HearsPiece piece (record s.link { silence = 0 }) h rest m.link → m ≡ record s { link = m.link } → Follows h was opened now m t → Hears piece now s rest t
all_heard piece now s m h rest was opened t carried terms heard same follows =
    (h, m, heard, same, subst (λ (o : Bool). Follows h s.link.carriage o now m t) terms (subst (λ (c : Carriage). Follows h c opened now m t) carried follows))
