-- What a string index stands for: docs/FORMAT.md, N1, N2, N7 to N10, T6 and T9 to T11.
--
--   system_of    the system name of map entry i, one leading `android:attr/` stripped; none where the entry or its name is missing
--   string_of    pool string i: its content, or cut (also where its offset is outside); none past the pool
--   content_of   the system name, else the pool string, else none
--   raw_of       its bytes before decoding; text_in its text as UTF-8: both empty for no text and for a string cut or outside
--   has_text     whether there is a text: an empty text is one
--   state_in     no text, a text that is no valid name (the empty one too), a valid name
--   plain_in     whether no other bytes in the same encoding have its text
--   same_text    whether two have texts and these are equal; is_text the same against lent bytes
--   android_uri  the Android namespace; is_android whether a text is this
--
-- t is the bytes behind the file's header; places in it are those of `Head`. Laws: proofs/Laws.antt.
use Rattle.std.specs.Prelude.{ℕ, List, [], ◌∷◌, Bool, true, false, cond, ◌&&◌, length, take, drop, ltb, Option, Some, None}
use Rattle.utf.specs.Text.{text_of, eq_bytes, Damage, damage_of, cut as cut_text, whole}
use Rattle.utf.specs.Plain.{is_plain}
use Rattle.xml.specs.NCName.{valid_name}
use Rattle.res_string_pool.specs.Pool.{offset_of}
use Rattle.res_string_pool.specs.Content.{split_of}
use Rattle.system_types.specs.Names.{Lent, system_name, without, android_attr}
use Rattle.resource_map.specs.Map.{id_of}
use Rattle.text.specs.declared.Head.{Head}
use Rattle.text.specs.declared.NameState.{NameState}
use Rattle.text.specs.declared.NameState.TheVariants.{NoText, Invalid, Valid}

-- none: no text; cut: a string that is cut or outside; else bytes, with true for UTF-16 and false for UTF-8
pub data Content : Type 0 where
  none : Content
  cut : Content
  some : Bool → List ℕ → Content

-- ---- the system name

abbrev pub named_by : List ℕ → Option (ℕ × ℕ) → Content
named_by area None = none
named_by area (Some (start, n)) = some false (without android_attr (take n (drop start area)))

unfoldable pub system_of : Head → List ℕ → Lent → ℕ → Content
system_of h t lent i = cond (ltb i h.ids) (named_by lent.area (system_name (id_of (drop h.map t) i) lent.names)) none

-- ---- the pool string

abbrev pub split_by : Bool → List ℕ → Option (ℕ × ℕ) → Content
split_by w d None = cut
split_by w d (Some (at, n)) = some w (take n (drop at d))

-- with d the pool's data, the string at the offset o
unfoldable pub string_at : Bool → List ℕ → ℕ → Content
string_at w d o = cond (ltb o (length d)) (split_by w (drop o d) (split_of w (drop o d))) cut

abbrev pub data_of : Head → List ℕ → List ℕ
data_of h t = take h.size (drop h.strings t)

unfoldable pub string_of : Head → List ℕ → ℕ → Content
string_of h t i = cond (ltb i h.count) (string_at h.utf16 (data_of h t) (offset_of (drop h.offsets t) i)) none

-- ---- the text of an index

abbrev pub or_else : Content → Content → Content
or_else none b = b
or_else cut b = cut
or_else (some w s) b = some w s

unfoldable pub content_of : Head → List ℕ → Lent → ℕ → Content
content_of h t lent i = or_else (system_of h t lent i) (string_of h t i)

-- the content bytes before decoding
abbrev pub raw_of : Content → List ℕ
raw_of none = []
raw_of cut = []
raw_of (some w s) = s

abbrev pub text_in : Content → List ℕ
text_in none = []
text_in cut = []
text_in (some w s) = text_of w s

abbrev pub has_text : Content → Bool
has_text none = false
has_text cut = true
has_text (some w s) = true

-- how the text was damaged
abbrev pub damage_in : Content → Damage
damage_in none = whole
damage_in cut = cut_text
damage_in (some w s) = damage_of w s

-- whether its text is a valid name; an empty text is none
abbrev pub is_name : Content → Bool
is_name none = false
is_name cut = false
is_name (some w s) = valid_name w s

abbrev pub valid_by : Bool → NameState
valid_by valid = cond valid Valid Invalid

-- whether no other bytes in the same encoding have its text
abbrev pub plain_in : Content → Bool
plain_in none = false
plain_in cut = false
plain_in (some w s) = is_plain w s

-- no text, a text that is no valid name, a valid name
abbrev pub state_in : Content → NameState
state_in c = cond (has_text c) (valid_by (is_name c)) NoText

abbrev pub same_text : Content → Content → Bool
same_text a b = has_text a && (has_text b && eq_bytes (text_in a) (text_in b))

-- whether two string indices have equal texts; an index without a text equals nothing, not even itself
abbrev pub same_name : Head → List ℕ → Lent → ℕ → ℕ → Bool
same_name h t lent i j = same_text (content_of h t lent i) (content_of h t lent j)

abbrev pub is_text : Content → List ℕ → Bool
is_text a s = has_text a && eq_bytes (text_in a) s

-- http://schemas.android.com/apk/res/android
abbrev pub android_uri : List ℕ
android_uri =
    104 ∷ 116 ∷ 116 ∷ 112 ∷ 58 ∷ 47 ∷ 47 ∷ 115 ∷ 99 ∷ 104 ∷ 101 ∷ 109 ∷ 97 ∷ 115 ∷ 46 ∷ 97 ∷ 110 ∷ 100 ∷ 114 ∷ 111 ∷ 105 ∷ 100 ∷ 46 ∷ 99 ∷ 111 ∷
    109 ∷ 47 ∷ 97 ∷ 112 ∷ 107 ∷ 47 ∷ 114 ∷ 101 ∷ 115 ∷ 47 ∷ 97 ∷ 110 ∷ 100 ∷ 114 ∷ 111 ∷ 105 ∷ 100 ∷ []

abbrev pub is_android : Content → Bool
is_android a = is_text a android_uri
