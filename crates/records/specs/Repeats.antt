-- When an attribute repeats another of its element: docs/FORMAT.md, W23.
--
--   Rule         whether the attribute of the first words repeats that of the second, both by the names of their words (Words.antt)
--   by_prefix     W23: they have one prefix and names of the same text, and where the prefix is 3 namespaces of the same text too;
--                `same` says whether two string indices have equal texts
--   same_space    whether the namespaces agree as far as the prefix asks: 0, 1 and 2 say all
--   repeats_one   whether a record repeats one of the first n records
--   is_repeat     whether it repeats one of those in a list of words; words left over at the end are no record
--
-- Which rule holds is a parameter of the model (`repeats` of events/specs/Events.antt). Laws: tables/proofs/Keys.antt.
use Rattle.std.specs.Prelude.{ℕ, zero, suc, ◌/◌, List, Bool, true, false, cond, ◌&&◌, ◌||◌, length, take, drop, get_or, eqb}
use Rattle.records.specs.Words.{attribute_width, attribute_prefix, attribute_name, attribute_namespace, own_prefix}

abbrev pub Rule : Type 0
Rule = List ℕ → List ℕ → Bool

abbrev pub same_space : (ℕ → ℕ → Bool) → ℕ → ℕ → ℕ → Bool
same_space same prefix old new = cond (eqb prefix own_prefix) (same old new) true

abbrev pub by_prefix : (ℕ → ℕ → Bool) → Rule
by_prefix same = λ new old.
    eqb (get_or old attribute_prefix 0) (get_or new attribute_prefix 0)
    && (same (get_or old attribute_name 0) (get_or new attribute_name 0)
    && same_space same (get_or new attribute_prefix 0) (get_or old attribute_namespace 0) (get_or new attribute_namespace 0))

unfoldable pub repeats_one : Rule → List ℕ → ℕ → List ℕ → Bool
repeats_one rule new zero w = false
repeats_one rule new (suc n) w = rule new (take attribute_width w) || repeats_one rule new n (drop attribute_width w)

abbrev pub is_repeat : Rule → List ℕ → List ℕ → Bool
is_repeat rule new w = repeats_one rule new (length w / attribute_width) w
