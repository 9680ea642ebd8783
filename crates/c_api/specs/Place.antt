-- Where the content of a string index lies, as a struct that C has: docs/FORMAT.md, N8, Q3.
--
--   slice_of       the lent slice of a number: 1 the name area, 2 the file; any other number is no slice, which has no bytes
--   is_there       whether a content is a part of what was lent: not for no text, and not for a string cut or outside
--   AsksContent   THE PROMISE of `axml_content`: the part that it names lies inside its slice and has the bytes of the content question,
--                 and slice 0 says that there is none
--
-- As with `head::content` the bytes are promised, and not which of several equal parts of the slices is named.
use Rattle.std.specs.Prelude.{ℕ, ◌+◌, ◌≤◌, ◌≡◌, Bool, true, false, cond, not, List, [], length, take, drop, eqb}
use Rattle.system_types.specs.Names.{Lent}
use Rattle.text.specs.Content.{Content, none, cut, some}
use Rattle.head.specs.Ask.{content_asked, content_answer}
use Rattle.c_api.specs.declared.content.AxmlContentAnswer.{AxmlContentAnswer}

abbrev pub slice_of : List ℕ → List ℕ → ℕ → List ℕ
slice_of f area k = cond (eqb k 1) area (cond (eqb k 2) f [])

abbrev pub is_there : Content → Bool
is_there none = false
is_there cut = false
is_there (some w s) = true

pub record AsksContent (f : List ℕ) (lent : Lent) (i : ℕ) (r : AxmlContentAnswer) : Type 0 where
  pub known : r.slice ≤ 2
  pub there : not (eqb r.slice 0) ≡ is_there (content_asked f lent i)
  pub inside : r.start + r.length ≤ length (slice_of f lent.area r.slice)
  pub bytes : take r.length (drop r.start (slice_of f lent.area r.slice)) ≡ content_answer f lent i
