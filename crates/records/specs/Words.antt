-- The words of a record, by name: docs/FORMAT.md, B9, B11, B12, N4, V3, M1, M4. The one place that knows them; src/lib.rt has the same numbers in code.
--
--   node_width, node_name ..            how many words a node has, and the place of each; attribute_width .., note_width .., name_width .. likewise,
--                                     and item_width .., pair_width .., answer_width ..: of a lent item, of a pair of a question, and of the answer to it
--   node_words, attribute_words, note_words, name_words, answer_words   the words of a record in their order
--   no_parent                          the parent word of the first node
--   own_prefix                         the prefix word of an attribute of a namespace that is not Android's, in the mode that tells it
--   merged, apart                     the modes of a reading
use Rattle.std.specs.Prelude.{ℕ, List, [], ◌∷◌}

-- ---- a node

abbrev pub node_width : ℕ
node_width = 6

-- the index of its name
abbrev pub node_name : ℕ
node_name = 0

-- 1 for `invalid-element`, else 0
abbrev pub node_fixed : ℕ
node_fixed = 1

-- the number of its parent
abbrev pub node_parent : ℕ
node_parent = 2

-- the number of its first attribute
abbrev pub node_first : ℕ
node_first = 3

-- how many attributes it has
abbrev pub node_count : ℕ
node_count = 4

-- the line of its start chunk, as read
abbrev pub node_line : ℕ
node_line = 5

abbrev pub no_parent : ℕ
no_parent = 4294967295

abbrev pub node_words : ℕ → ℕ → ℕ → ℕ → ℕ → ℕ → List ℕ
node_words name fixed parent first count line = name ∷ fixed ∷ parent ∷ first ∷ count ∷ line ∷ []

-- ---- an attribute

abbrev pub attribute_width : ℕ
attribute_width = 6

-- the number of its node
abbrev pub attribute_owner : ℕ
attribute_owner = 0

-- 0 none, 1 `android`, 2 that of the leading attribute, 3 a namespace of its own
abbrev pub attribute_prefix : ℕ
attribute_prefix = 1

-- the index of its name
abbrev pub attribute_name : ℕ
attribute_name = 2

abbrev pub attribute_type : ℕ
attribute_type = 3

abbrev pub attribute_data : ℕ
attribute_data = 4

-- the index of its namespace, as it was read; 0 for the leading attribute, whose 0 is no index
abbrev pub attribute_namespace : ℕ
attribute_namespace = 5

-- the prefix of a namespace that has a text and is not Android's, where these are told apart
abbrev pub own_prefix : ℕ
own_prefix = 3

abbrev pub attribute_words : ℕ → ℕ → ℕ → ℕ → ℕ → ℕ → List ℕ
attribute_words owner prefix name kind «data» ns = owner ∷ prefix ∷ name ∷ kind ∷ «data» ∷ ns ∷ []

-- ---- a note lent as words

abbrev pub note_width : ℕ
note_width = 3

abbrev pub note_kind : ℕ
note_kind = 0

abbrev pub note_a : ℕ
note_a = 1

abbrev pub note_b : ℕ
note_b = 2

abbrev pub note_words : ℕ → ℕ → ℕ → List ℕ
note_words kind a b = kind ∷ a ∷ b ∷ []

-- ---- a lent system name

abbrev pub name_width : ℕ
name_width = 3

abbrev pub name_id : ℕ
name_id = 0

-- where its text begins in the area
abbrev pub name_start : ℕ
name_start = 1

-- the bytes of its text
abbrev pub name_length : ℕ
name_length = 2

abbrev pub name_words : ℕ → ℕ → ℕ → List ℕ
name_words id start length = id ∷ start ∷ length ∷ []

-- ---- a lent item: a named value of an attribute

abbrev pub item_width : ℕ
item_width = 6

-- where the attribute's name begins in the area
abbrev pub item_attribute : ℕ
item_attribute = 0

-- the bytes of the attribute's name
abbrev pub item_attribute_length : ℕ
item_attribute_length = 1

-- 0 enum, 1 flag
abbrev pub item_kind : ℕ
item_kind = 2

-- where its own name begins in the area
abbrev pub item_name : ℕ
item_name = 3

-- the bytes of its own name
abbrev pub item_name_length : ℕ
item_name_length = 4

abbrev pub item_value : ℕ
item_value = 5

-- ---- a pair of a question: parts of an area of bytes

abbrev pub pair_width : ℕ
pair_width = 4

-- where its tag begins in the area
abbrev pub pair_tag : ℕ
pair_tag = 0

-- the bytes of its tag
abbrev pub pair_tag_length : ℕ
pair_tag_length = 1

-- where its name begins in the area
abbrev pub pair_name : ℕ
pair_name = 2

-- the bytes of its name
abbrev pub pair_name_length : ℕ
pair_name_length = 3

-- ---- the answer to a pair

abbrev pub answer_width : ℕ
answer_width = 4

-- 0 where a value was found, else 12
abbrev pub answer_refusal : ℕ
answer_refusal = 0

abbrev pub answer_type : ℕ
answer_type = 1

abbrev pub answer_data : ℕ
answer_data = 2

-- 1 for a reference, else 0
abbrev pub answer_reference : ℕ
answer_reference = 3

abbrev pub answer_words : ℕ → ℕ → ℕ → ℕ → List ℕ
answer_words refusal kind «data» reference = refusal ∷ kind ∷ «data» ∷ reference ∷ []

-- ---- the mode of a reading

-- every namespace with a text is `android`, as in the Rust
abbrev pub merged : ℕ
merged = 1

-- Android's namespace and others are told apart
abbrev pub apart : ℕ
apart = 2
