-- The star of a hub, over a history.
use Rattle.std.proofs.Common.{◌≡◌, ℕ, ◌≤◌, Bool, List, [], ◌∷◌, ◌++◌, refl, Option, Some, None, arith}
use Rattle.jup_honest.specs.Prelude.{Windows, content, board_batches, batch_laws, StarFault, Call, Join, Take, Fetch, Leave, IsOpening, HubEvent, star_through, IsLegal}
use Rattle.jup_window.specs.Laws.Entries.{only_site-held}
use Rattle.jup_star.specs.Stars as star_stars
use Rattle.jup_star.proofs.Stars.{board_small}
use Rattle.jup_site.proofs.Stars as stars
use Rattle.jup_site.specs.Courses as over_time
use Rattle.jup_site.proofs.Courses.{becomes-grows}
use Rattle.jup_site.specs.Moments.{IsCalled}
use Rattle.jup_site.specs.Prelude.{highest_limit, new_star, link_of, join_fault, up_fault, most_batches, BoardStar}

-- of boards
abbrev pub CalledStar : Windows → BoardStar → Type 0
CalledStar board s = IsCalled board_batches most_batches (content board) s

-- what becomes of it by a call
pub call-becomes : (c : Call) (s : BoardStar) → over_time.Becomes board_batches s (star_stars.star_after c s)
unfolding star_stars.star_after
call-becomes Join s = go (join_fault s)
  where
    go : (o : Option StarFault) → over_time.Becomes board_batches s (star_stars.after_join s o)
    go None = over_time.Admits
    go (Some e) = over_time.Rests
call-becomes (Take i u) s = go (link_of i s.links) refl
  where
    at : (l : star_stars.BoardLink) → link_of i s.links ≡ Some l → (f : Option StarFault) → up_fault board_batches s l u ≡ f → over_time.Becomes board_batches s (star_stars.after_take i u s (Some l) f)
    at l fl None none = over_time.Accepts i l fl u none
    at l fl (Some e) is = over_time.Drops i

    go : (o : Option star_stars.BoardLink) → link_of i s.links ≡ o → over_time.Becomes board_batches s (star_stars.after_take i u s o (star_stars.take_fault board_batches s u o))
    go None e = over_time.Rests
    go (Some l) e = at l e (up_fault board_batches s l u) refl
call-becomes (Fetch i m) s = go (link_of i s.links)
  where
    go : (o : Option star_stars.BoardLink) → over_time.Becomes board_batches s (star_stars.after_fetch i m s o)
    go None = over_time.Rests
    go (Some l) = over_time.Gives i m
call-becomes (Leave i) s = go (link_of i s.links)
  where
    go : (o : Option star_stars.BoardLink) → over_time.Becomes board_batches s (star_stars.after_leave i s o)
    go None = over_time.Rests
    go (Some l) = over_time.Drops i

pub call-grows : (board : Windows) (c : Call) (s : BoardStar) → CalledStar board s → stars.Grows board_batches batch_laws most_batches (content board) s (star_stars.star_after c s)
call-grows board c s h = becomes-grows board_batches batch_laws most_batches (content board) s (star_stars.star_after c s) (call-becomes c s) h

-- any history
pub called-through : (board : Windows) (es : List HubEvent) (s : BoardStar) → CalledStar board s → CalledStar board (star_through s es)
called-through board [] s h = h
called-through board (e ∷ es) s h = called-through board es (star_stars.star_after e.call s) (call-grows board e.call s h).called

-- a star as it is opened
pub called-opened : (keeps : Bool) (board : Windows) (limit : ℕ) → IsOpening board → limit ≤ highest_limit → CalledStar board (new_star keeps board limit)
called-opened keeps board limit opens limited = record {
  star = stars.star-opened board_batches batch_laws most_batches limit board opens.distinct (board_small board opens.short) (let low = limited in omega arith) (omega arith)
      (λ n held. only_site-held 0 board n opens.unsigned held);
  no_entry = λ j above. refl;
}

-- a history in two parts
pub legal-parts : (s : BoardStar) (xs ys : List HubEvent) → IsLegal s (xs ++ ys) → IsLegal s xs × IsLegal (star_through s xs) ys
legal-parts s [] ys h = (tt, h)
legal-parts s (x ∷ xs) ys h = let rest = legal-parts (star_stars.star_after x.call s) xs ys h.1 in ((h.0, rest.0), rest.1)

pub through-parts : (s : BoardStar) (xs ys : List HubEvent) → star_through s (xs ++ ys) ≡ star_through (star_through s xs) ys
through-parts s [] ys = refl
through-parts s (x ∷ xs) ys = through-parts (star_stars.star_after x.call s) xs ys
