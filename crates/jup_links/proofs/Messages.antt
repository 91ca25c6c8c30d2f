-- Lines that begin an edit, and lines that begin none.
use Rattle.std.proofs.Common.{◌≡◌, ◌≢◌, ℕ, List, inr, sym, ◌∙◌, codes, decimal}
use Rattle.jup_number.specs.Numbers.{IsU32}
use Rattle.jup_resume.specs.Texts.{Lacks, IsCut}
use Rattle.jup_resume.proofs.Texts.{cut_same, whole_lacks}
use Rattle.jup_links.specs.Messages.{Announces, AnnouncesNone, BeginsAs}

-- what is cut into these fields begins an edit
pub announces : (text word fields first others heard digits : List ℕ) (count : ℕ)
    → IsCut 32 text word fields → word ≡ codes "batch" → IsCut 32 fields first others → IsCut 32 others heard digits → IsU32 count → digits ≡ decimal count → BeginsAs text count
announces text word fields first others heard digits count cut is_word first_cut heard_cut small is_count =
    inr (
      small,
      record {
        fields = fields;
        first = first;
        others = others;
        heard = heard;
        word = rw (← is_word) cut;
        first_field = first_cut;
        heard_field = rw (← is_count) heard_cut;
      },
    )

-- The first cut at a separator is the only one.
same_cut : (bytes before behind l m : List ℕ) → IsCut 32 bytes before behind → IsCut 32 bytes l m → (before ≡ l) × (behind ≡ m)
same_cut bytes before behind l m one other = cut_same 32 before l behind m one.first other.first (sym one.whole ∙ other.whole)

pub no_fields : (text : List ℕ) → Lacks 32 text → AnnouncesNone text
no_fields text lacks count small is = whole_lacks 32 text (codes "batch") is.fields lacks is.word.whole

pub other_word : (text word fields : List ℕ) → IsCut 32 text word fields → word ≢ codes "batch" → AnnouncesNone text
other_word text word fields cut other count small is = other (same_cut text word fields (codes "batch") is.fields cut is.word).0

-- the fields of a line with this first word
fields_are : (text fields : List ℕ) (count : ℕ) → IsCut 32 text (codes "batch") fields → (is : Announces text count) → fields ≡ is.fields
fields_are text fields count cut is = (same_cut text (codes "batch") fields (codes "batch") is.fields cut is.word).1

pub one_field : (text fields : List ℕ) → IsCut 32 text (codes "batch") fields → Lacks 32 fields → AnnouncesNone text
one_field text fields cut lacks count small is =
    whole_lacks 32 fields is.first is.others lacks (fields_are text fields count cut is ∙ is.first_field.whole)

-- what comes after the first field
others_are : (text fields first others : List ℕ) (count : ℕ) → IsCut 32 text (codes "batch") fields → IsCut 32 fields first others → (is : Announces text count) → others ≡ is.others
others_are text fields first others count cut first_cut is =
    (same_cut fields first others is.first is.others first_cut (rw (fields_are text fields count cut is) is.first_field)).1

pub two_fields : (text fields first others : List ℕ) → IsCut 32 text (codes "batch") fields → IsCut 32 fields first others → Lacks 32 others → AnnouncesNone text
two_fields text fields first others cut first_cut lacks count small is =
    whole_lacks 32 others is.heard (decimal count) lacks (others_are text fields first others count cut first_cut is ∙ is.heard_field.whole)

pub no_count : (text fields first others heard digits : List ℕ) → IsCut 32 text (codes "batch") fields → IsCut 32 fields first others → IsCut 32 others heard digits
    → ((n : ℕ) → IsU32 n → digits ≢ decimal n) → AnnouncesNone text
no_count text fields first others heard digits cut first_cut heard_cut none count small is =
    none count small (same_cut others heard digits is.heard (decimal count) heard_cut (rw (others_are text fields first others count cut first_cut is) is.heard_field)).1
