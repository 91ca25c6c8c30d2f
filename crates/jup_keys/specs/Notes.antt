-- The notes by which a board is opened, each in its one spelling.
use Rattle.std.specs.Prelude.{◌≡◌, ◌≢◌, ℕ, List, [], ◌∷◌, ◌++◌, codes, decimal, Option}
use Rattle.std.specs.List.{flat_map}
use Rattle.jup_number.specs.Numbers.{IsReadingOf}
use Rattle.jup_resume.specs.Texts.{spelled}
use Rattle.jup_resume.specs.Tokens.{IsTokenText}
use Rattle.jup_keys.specs.Ids.{IsIdText}
use Rattle.jup_keys.specs.Makings.{makers_word, IsTemplateText}
use Rattle.jup_keys.specs.declared.makers.Makers.{Makers}
use Rattle.jup_keys.specs.declared.news.BoardNews.{BoardNews}
use Rattle.jup_keys.specs.declared.news.BoardNews.TheVariants.{Links, Full}
use Rattle.jup_keys.specs.Rights.{right_word}
use Rattle.jup_keys.specs.declared.request.Source.{Source}
use Rattle.jup_keys.specs.declared.request.Source.TheVariants as source
use Rattle.jup_keys.specs.declared.request.Request.{Request}
use Rattle.jup_keys.specs.declared.request.Request.TheVariants.{Open, Make, Owner, Templates, News, Keys}
use Rattle.jup_keys.specs.declared.answer.Answer.{Answer}
use Rattle.jup_keys.specs.declared.answer.Answer.TheVariants.{May, MayMake, Run, Key, Create, Template}
use Rattle.jup_keys.specs.declared.opening.Opening.{Opening}
use Rattle.jup_keys.specs.declared.opening.Opening.TheVariants as opening

-- What a client says.

-- what a board is made from
abbrev pub source_text : Source → List ℕ
source_text (source.Template name) = name
source_text source.Printed = codes "-"

abbrev pub IsSource : Source → Type 0
IsSource (source.Template name) = IsTemplateText name
IsSource source.Printed = Unit {0}

-- a key, and what a board is made from
abbrev pub made_fields : List ℕ × Source → List ℕ
made_fields it = it.0 ++ 32 ∷ source_text it.1

abbrev pub AreMadeFields : List ℕ × Source → Type 0
AreMadeFields it = IsTokenText it.0 × IsSource it.1

-- the first word of a note
abbrev pub request_word : Request → List ℕ
request_word (Open id key) = codes "open"
request_word (Make id key from) = codes "make"
request_word (Owner key) = codes "owner"
request_word Templates = codes "templates"
request_word News = codes "news"
request_word Keys = codes "keys"

-- the note is that word alone
abbrev pub IsAlone : Request → Type 0
IsAlone (Open id key) = ⊥
IsAlone (Make id key from) = ⊥
IsAlone (Owner key) = ⊥
IsAlone Templates = Unit {0}
IsAlone News = Unit {0}
IsAlone Keys = Unit {0}

-- what comes after that word and a space
abbrev pub request_fields : Request → List ℕ
request_fields (Open id key) = id ++ 32 ∷ key
request_fields (Make id key from) = id ++ 32 ∷ made_fields (key, from)
request_fields (Owner key) = key
request_fields Templates = []
request_fields News = []
request_fields Keys = []

-- there are fields, and they can be spelled
abbrev pub HasFields : Request → Type 0
HasFields (Open id key) = IsIdText id × IsTokenText key
HasFields (Make id key from) = IsIdText id × AreMadeFields (key, from)
HasFields (Owner key) = IsTokenText key
HasFields Templates = ⊥
HasFields News = ⊥
HasFields Keys = ⊥

-- the one spelling of a note, without its line feed
abbrev pub request_text : Request → List ℕ
request_text (Open id key) = codes "open " ++ (id ++ 32 ∷ key)
request_text (Make id key from) = codes "make " ++ (id ++ 32 ∷ made_fields (key, from))
request_text (Owner key) = codes "owner " ++ key
request_text Templates = codes "templates"
request_text News = codes "news"
request_text Keys = codes "keys"

-- a note that can be spelled
abbrev pub IsRequest : Request → Type 0
IsRequest (Open id key) = IsIdText id × IsTokenText key
IsRequest (Make id key from) = IsIdText id × AreMadeFields (key, from)
IsRequest (Owner key) = IsTokenText key
IsRequest Templates = Unit {0}
IsRequest News = Unit {0}
IsRequest Keys = Unit {0}

-- the note that was read has this word, and these fields after it; with none read, no note has them
abbrev pub IsRequestBehind : List ℕ → List ℕ → Option Request → Type 0
IsRequestBehind word fields read = IsReadingOf request_fields (λ note. HasFields note × (request_word note ≡ word)) fields read

-- What a server answers.

-- the first word of a note
abbrev pub answer_word : Answer → List ℕ
answer_word (May right) = codes "may"
answer_word MayMake = codes "may"
answer_word (Run name) = codes "run"
answer_word (Key right key) = codes "key"
answer_word (Create makers) = codes "create"
answer_word (Template name) = codes "template"

-- what comes after that word and a space
abbrev pub answer_fields : Answer → List ℕ
answer_fields (May right) = right_word right
answer_fields MayMake = codes "owner"
answer_fields (Run name) = name
answer_fields (Key right key) = right_word right ++ 32 ∷ key
answer_fields (Create makers) = makers_word makers
answer_fields (Template name) = name

-- the one spelling of a note, without its line feed
abbrev pub answer_text : Answer → List ℕ
answer_text note = answer_word note ++ 32 ∷ answer_fields note

-- a note that can be spelled
abbrev pub IsAnswer : Answer → Type 0
IsAnswer (May right) = Unit {0}
IsAnswer MayMake = Unit {0}
IsAnswer (Run name) = IsTokenText name
IsAnswer (Key right key) = IsTokenText key
IsAnswer (Create makers) = Unit {0}
IsAnswer (Template name) = IsTemplateText name

-- the note that was read has this word, and these fields after it; with none read, no note has them
abbrev pub IsAnswerBehind : List ℕ → List ℕ → Option Answer → Type 0
IsAnswerBehind word fields read = IsReadingOf answer_fields (λ note. IsAnswer note × (answer_word note ≡ word)) fields read

-- What a server says of a board while it is open.

-- the one spelling of a note, without its line feed
abbrev pub news_text : BoardNews → List ℕ
news_text (Links count) = codes "links " ++ decimal count
news_text Full = codes "full"

-- the whole answer to `templates`: who makes boards, and from which templates
abbrev pub offer_text : Makers → List (List ℕ) → List ℕ
offer_text makers names = spelled (answer_text (Create makers)) ++ (flat_map (λ name. spelled (answer_text (Template name))) names ++ spelled (codes "end"))

-- What a first line asks for.

-- the text is this note
abbrev pub Spells : List ℕ → Request → Type 0
Spells text note = IsRequest note × (text ≡ request_text note)

-- a note that may be a first line
abbrev pub IsFirst : Request → Type 0
IsFirst (Open id key) = Unit {0}
IsFirst (Make id key from) = Unit {0}
IsFirst (Owner key) = Unit {0}
IsFirst Templates = Unit {0}
IsFirst News = ⊥
IsFirst Keys = ⊥

-- what a text asks for as a first line
abbrev pub AsksFor : List ℕ → Opening → Type 0
AsksFor text (opening.Board id key) = Spells text (Open id key)
AsksFor text (opening.New id key from) = Spells text (Make id key from)
AsksFor text (opening.Owner key) = Spells text (Owner key)
AsksFor text opening.Templates = Spells text Templates
AsksFor text opening.NoBoard = (note : Request) → IsFirst note → IsRequest note → text ≢ request_text note
