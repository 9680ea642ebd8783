-- How the code goes over its lists: one kind counted, and the cells of the kinds that are already laid down.
use Rattle.std.specs.Prelude.{ℕ, ◌+◌, ◌-◌, ◌*◌, cond, List, ◌++◌, set, get_or, replicate, take, ltb}
use Rattle.round_up.specs.RoundUp.{kinds, classes, head_of, cells_of}

-- the counts with one more of this kind; as they were where it is no kind of the grid
abbrev pub counted_in : List ℕ → ℕ → List ℕ
counted_in counts kind = cond (ltb kind kinds) (set counts kind (get_or counts kind 0 + 1)) counts

-- what a file that was read adds, with the cells of the first k kinds laid down and zeros for the others
abbrev pub laid_of : ℕ → List ℕ → ℕ → List ℕ
laid_of class counts k = head_of ++ (cells_of class (take k counts) ++ replicate (classes * (kinds - k)) 0)
