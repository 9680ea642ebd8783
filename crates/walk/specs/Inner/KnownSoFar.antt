-- What is known of names and of long texts between two calls of `advance_knowing`. Not part of what a reader must believe.
--
--   KnownSoFar   before the head is opened nothing is known; while the body is read, what is known is true of this file. When the answer is known,
--                nothing is asked of it but its room
use Rattle.std.specs.Prelude.{ℕ, ◌≡◌, List, length, replicate}
use Rattle.system_types.specs.Names.{Lent}
use Rattle.head.specs.Head.{tables_in}
use Rattle.tables.specs.Inner.Numbered.{word_count, Numbered}
use Rattle.events.specs.Inner.Remembered.{words, Remembers}
use Rattle.walk.specs.declared.Stage.TheVariants.{Fresh, Reading as InBody}
use Rattle.walk.specs.declared.State.{State}

pub record KnownSoFar (f : List ℕ) (lent : Lent) (st : State) (memory numbers : List ℕ) : Type 0 where
  pub looks-room : length memory ≡ words
  pub texts-room : length numbers ≡ word_count
  pub no-looks : st.stage ≡ Fresh → memory ≡ replicate words 0
  pub no-texts : st.stage ≡ Fresh → numbers ≡ replicate word_count 0
  pub looks : st.stage ≡ InBody → Remembers st.opened.head (tables_in f st.opened.head) lent memory
  pub texts : st.stage ≡ InBody → Numbered st.opened.head (tables_in f st.opened.head) lent numbers
