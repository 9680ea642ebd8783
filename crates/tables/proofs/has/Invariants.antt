-- `tables::has` meets its contract: it stops at the first record of this prefix whose name has the same text; where the namespace counts or the name is
-- long, `has_numbered` says it.
-- Invariant: of those passed none is one, whichever index the wanted text was found for; what is known of it.
use Prim.Native.Nat.{ℕ}
use mathlib.Core.Path.{◌≡◌}
use Rattle.std.specs.Slice.Iter.{chunks_exact_rest, chunks_exact_size}
use Rattle.utf.specs.Plain.{Known}
use Rattle.records.specs.Words.{attribute_width, attribute_words}
use Rattle.records.specs.Repeats.{by_prefix, is_repeat}
use Rattle.system_types.specs.Names.{lends}
use Rattle.text.specs.Content.{plain_in, same_name}
use Rattle.text.specs.Inner.Found.{part_of, Finds}
use Rattle.tables.proofs.has.Given as goal

abbrev pub invariant-loop-record : goal.invariant-loop-record
invariant-loop-record l = record {
  next : goal.iterator-loop-record.can_next l.record-iterator;
  finite : goal.iterator-loop-record.is_finite l.record-iterator;
  size : chunks_exact_size l.record-iterator ≡ attribute_width;
  plain : Known l.plain (plain_in (part_of l.h.utf16 l.t l.area l.wanted));
  passed : (n ns owner kind value : ℕ) → Finds l.t (lends l.names l.area) l.h n l.wanted
      → is_repeat (by_prefix (same_name l.h l.t (lends l.names l.area))) (attribute_words owner l.prefix n kind value ns) l.words
      ≡ is_repeat (by_prefix (same_name l.h l.t (lends l.names l.area))) (attribute_words owner l.prefix n kind value ns)
      (chunks_exact_rest l.record-iterator);
}
