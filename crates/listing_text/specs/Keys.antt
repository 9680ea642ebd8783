-- The keys of a listing's lines, as bytes: docs/FORMAT.md, L2, L3. Each stands above its bytes as text.
use Rattle.std.specs.Prelude.{ℕ, List, [], ◌∷◌}

-- refusal
abbrev pub refusal_key : List ℕ
refusal_key = 114 ∷ 101 ∷ 102 ∷ 117 ∷ 115 ∷ 97 ∷ 108 ∷ []

-- value
abbrev pub value_key : List ℕ
value_key = 118 ∷ 97 ∷ 108 ∷ 117 ∷ 101 ∷ []

-- cap
abbrev pub cap_key : List ℕ
cap_key = 99 ∷ 97 ∷ 112 ∷ []

-- starts
abbrev pub starts_key : List ℕ
starts_key = 115 ∷ 116 ∷ 97 ∷ 114 ∷ 116 ∷ 115 ∷ []

-- nodes
abbrev pub nodes_key : List ℕ
nodes_key = 110 ∷ 111 ∷ 100 ∷ 101 ∷ 115 ∷ []

-- attributes
abbrev pub attributes_key : List ℕ
attributes_key = 97 ∷ 116 ∷ 116 ∷ 114 ∷ 105 ∷ 98 ∷ 117 ∷ 116 ∷ 101 ∷ 115 ∷ []

-- notes
abbrev pub notes_key : List ℕ
notes_key = 110 ∷ 111 ∷ 116 ∷ 101 ∷ 115 ∷ []

-- node
abbrev pub node_key : List ℕ
node_key = 110 ∷ 111 ∷ 100 ∷ 101 ∷ []

-- name
abbrev pub name_key : List ℕ
name_key = 110 ∷ 97 ∷ 109 ∷ 101 ∷ []

-- fixed
abbrev pub fixed_key : List ℕ
fixed_key = 102 ∷ 105 ∷ 120 ∷ 101 ∷ 100 ∷ []

-- parent
abbrev pub parent_key : List ℕ
parent_key = 112 ∷ 97 ∷ 114 ∷ 101 ∷ 110 ∷ 116 ∷ []

-- first
abbrev pub first_key : List ℕ
first_key = 102 ∷ 105 ∷ 114 ∷ 115 ∷ 116 ∷ []

-- count
abbrev pub count_key : List ℕ
count_key = 99 ∷ 111 ∷ 117 ∷ 110 ∷ 116 ∷ []

-- line
abbrev pub line_key : List ℕ
line_key = 108 ∷ 105 ∷ 110 ∷ 101 ∷ []

-- attribute
abbrev pub attribute_key : List ℕ
attribute_key = 97 ∷ 116 ∷ 116 ∷ 114 ∷ 105 ∷ 98 ∷ 117 ∷ 116 ∷ 101 ∷ []

-- owner
abbrev pub owner_key : List ℕ
owner_key = 111 ∷ 119 ∷ 110 ∷ 101 ∷ 114 ∷ []

-- prefix
abbrev pub prefix_key : List ℕ
prefix_key = 112 ∷ 114 ∷ 101 ∷ 102 ∷ 105 ∷ 120 ∷ []

-- type
abbrev pub type_key : List ℕ
type_key = 116 ∷ 121 ∷ 112 ∷ 101 ∷ []

-- data
abbrev pub data_key : List ℕ
data_key = 100 ∷ 97 ∷ 116 ∷ 97 ∷ []

-- ns
abbrev pub ns_key : List ℕ
ns_key = 110 ∷ 115 ∷ []

-- note
abbrev pub note_key : List ℕ
note_key = 110 ∷ 111 ∷ 116 ∷ 101 ∷ []

-- kind
abbrev pub kind_key : List ℕ
kind_key = 107 ∷ 105 ∷ 110 ∷ 100 ∷ []

-- a
abbrev pub a_key : List ℕ
a_key = 97 ∷ []

-- b
abbrev pub b_key : List ℕ
b_key = 98 ∷ []
