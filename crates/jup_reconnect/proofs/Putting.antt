-- What the session says is put on the link, line by line.
use Rattle.std.proofs.Common.{◌≡◌, ◌≤◌, ℕ, ◌+◌, ◌++◌, List, [], ◌∷◌, length, drop, refl, sym, ap, ◌∙◌, flat_map, append_assoc, append-nil, length-append, arith}
use Rattle.std.proofs.lemmas.List.Concat.{flat_map-append}
use Rattle.std.proofs.lemmas.List.Prefix.{front_rest}
use Rattle.jup_resume.specs.Texts.{Text, IsCut, spelled}
use Rattle.jup_lasting.specs.Links.{Link, with_text}
use Rattle.jup_embed.specs.Sessions.{Session}
use Rattle.jup_reconnect.specs.Lasting.{Lasting, PutsSaid, with_texts}

with_texts-append : (texts : List Text) (text : Text) (link : Link) → with_texts (texts ++ text ∷ []) link ≡ with_text text (with_texts texts link)
with_texts-append [] text link = refl
with_texts-append (first ∷ texts) text link = with_texts-append texts text (with_text first link)

-- the first line of some bytes, and the bytes after it
first_line : (text rest bytes : List ℕ) → IsCut 10 bytes text rest → bytes ≡ spelled text ++ rest
first_line text rest bytes cut = cut.whole ∙ sym (append_assoc text (10 ∷ []) rest)

rest_left : (text rest bytes : List ℕ) → IsCut 10 bytes text rest → drop (length text + 1) bytes ≡ rest
rest_left text rest bytes cut = ap (λ n. drop n bytes) (sym (length-append text (10 ∷ []))) ∙ front_rest bytes (spelled text) rest (first_line text rest bytes cut)

-- a line and its line feed are some of the bytes
pub line_within : (text rest bytes : List ℕ) → IsCut 10 bytes text rest → length text + 1 ≤ length bytes
line_within text rest bytes cut =
    let whole : length bytes ≡ length (text ++ 10 ∷ rest) = ap length cut.whole in
    omega (arith, whole, length-append text (10 ∷ rest))

pub puts_more : (text rest : List ℕ) (c m d : Lasting) → PutsSaid c m → IsCut 10 m.session.waiting text rest → d.link ≡ with_text text m.link
    → d.session ≡ record m.session { waiting = drop (length text + 1) m.session.waiting } → d.answered ≡ m.answered → PutsSaid c d
puts_more text rest c m d puts cut link session answered = record {
  texts = puts.texts ++ text ∷ [];
  said =
      let waits : d.session.waiting ≡ drop (length text + 1) m.session.waiting = ap (λ (s : Session). s.waiting) session in
      let left : d.session.waiting ≡ rest = waits ∙ rest_left text rest m.session.waiting cut in
      let spells : flat_map spelled (text ∷ []) ≡ spelled text = append-nil (spelled text) in
      puts.said ∙ ap (λ (bytes : List ℕ). flat_map spelled puts.texts ++ bytes) (first_line text rest m.session.waiting cut ∙ ap (λ (bytes : List ℕ). spelled text ++ bytes) (sym left))
      ∙ sym (append_assoc (flat_map spelled puts.texts) (spelled text) d.session.waiting)
      ∙ ap (λ (bytes : List ℕ). bytes ++ d.session.waiting) (ap (λ (bytes : List ℕ). flat_map spelled puts.texts ++ bytes) (sym spells) ∙ sym (flat_map-append spelled puts.texts (text ∷ [])));
  put = link ∙ ap (with_text text) puts.put ∙ sym (with_texts-append puts.texts text c.link);
  session =
      let waits : d.session.waiting ≡ drop (length text + 1) m.session.waiting = ap (λ (s : Session). s.waiting) session in
      session ∙ ap (λ (s : Session). record s { waiting = drop (length text + 1) m.session.waiting }) puts.session
      ∙ ap (λ (bytes : List ℕ). record c.session { waiting = bytes }) (sym waits);
  answered = answered ∙ puts.answered;
}

-- nothing was put yet
pub puts_none : (c : Lasting) → PutsSaid c c
puts_none c = record { texts = []; said = refl; put = refl; session = refl; answered = refl }
