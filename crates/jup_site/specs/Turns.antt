-- The star's order as one site sees it, and what its link counts.
use Rattle.std.specs.Prelude.{ℕ, zero, suc, cond, List, [], ◌∷◌, nat_eq, ◌+◌, ◌++◌, ◌≡◌, ◌⊎◌, ◌<◌}
use Rattle.jup_site.specs.Prelude.{answer_after, generated, Operations, Entry, Down, DownOp, DownAck, DownPong, LinkState}
use Rattle.jup_site.specs.Sites.{AttachedOf}

-- The star's order as one site sees it.

-- an entry is the site's own, or another's
pub data Turn (Edit : Type 0) : Type 0 where
  Own : Edit → Turn Edit
  Other : ℕ → Edit → Turn Edit

-- as a site sees one entry
abbrev pub turn : {Edit : Type 0} → ℕ → Entry Edit → Turn Edit
turn i r = cond (nat_eq r.site i) (Own r.edit) (Other r.site r.edit)

-- and a list of entries
abbrev pub turns : {Edit : Type 0} → ℕ → List (Entry Edit) → List (Turn Edit)
turns i [] = []
turns i (r ∷ rs) = turn i r ∷ turns i rs

-- the edits of all entries
abbrev pub edits : {Edit : Type 0} → List (Turn Edit) → List Edit
edits [] = []
edits (Own e ∷ ts) = e ∷ edits ts
edits (Other j e ∷ ts) = e ∷ edits ts

-- those of the site's own
abbrev pub own_edits : {Edit : Type 0} → List (Turn Edit) → List Edit
own_edits [] = []
own_edits (Own e ∷ ts) = e ∷ own_edits ts
own_edits (Other j e ∷ ts) = own_edits ts

-- and those of other sites
abbrev pub others : {Edit : Type 0} → List (Turn Edit) → List Edit
others [] = []
others (Own e ∷ ts) = others ts
others (Other j e ∷ ts) = e ∷ others ts

-- how many entries reach through the n-th entry of another site
abbrev pub through_others : {Edit : Type 0} → ℕ → List (Turn Edit) → ℕ
through_others zero ts = 0
through_others (suc n) [] = 0
through_others (suc n) (Own e ∷ ts) = suc (through_others (suc n) ts)
through_others (suc n) (Other j e ∷ ts) = suc (through_others n ts)

-- Lists of which each element has a property.

-- an element is in the list
abbrev pub IsIn : {A : Type 0} → A → List A → Type 0
IsIn x [] = ⊥
IsIn x (y ∷ ys) = (x ≡ y) ⊎ IsIn x ys

-- How many of a site's edits are not known to be received, which is its backlog.

-- the last count that a site knows once these messages are delivered to it
abbrev pub told_count : {Operation : Type 0} → ℕ → List (Down Operation) → ℕ
told_count n [] = n
told_count n (DownOp m ∷ ds) = told_count m.heard ds
told_count n (DownAck k ∷ ds) = told_count k ds
told_count n (DownPong k ∷ ds) = told_count n ds

-- how many edits of other sites a message brings
abbrev pub brings : {Operation : Type 0} → Down Operation → ℕ
brings (DownOp m) = 1
brings (DownAck n) = 0
brings (DownPong k) = 0

module _ (O : Operations) where
  -- of a site's edits that the star received, it acknowledged all but fewer than `answer_after`, the unanswered ones of its end; and each
  -- edit that the site made was sent
  pub record Counts (l : LinkState O.Op) (a : AttachedOf O) : Type 0 where
    pub short : l.end.unanswered < answer_after
    pub told : told_count a.site.end.acknowledged (a.down ++ l.outbox) + l.end.unanswered ≡ l.end.received
    pub sent : a.site.made ≡ generated a.site.end
