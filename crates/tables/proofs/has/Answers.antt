-- `tables::has` meets its contract: it stops at the first record of this prefix whose name has the same text; where the namespace counts or the name is
-- long, `has_numbered` says it.
use Rattle.std.proofs.Common.{sym, ◌∙◌, arith}
use Rattle.std.specs.Slice.Iter.{chunks_exact_rest}
use Rattle.records.specs.Words.{attribute_words}
use Rattle.records.specs.Repeats.{by_prefix}
use Rattle.system_types.specs.Names.{lends}
use Rattle.text.specs.Content.{same_name}
use Rattle.tables.proofs.Keys.{repeat-end, repeat-found, repeat-prefix, repeat-name, same-found, space-any}
use Rattle.tables.proofs.has.Goals as goal

pub returns-then-words-lt-ATTRIBUTE_WORDS : goal.returns-then-words-lt-ATTRIBUTE_WORDS
returns-then-words-lt-ATTRIBUTE_WORDS c =
    let a = c.args in let same = same_name a.h a.t.now (lends a.names.now a.area.now) in (
      (λ owner kind value. sym (repeat-end (by_prefix same) (attribute_words owner a.prefix a.name.0 kind value a.ns.0) a.words.now
          c.if-words-lt-ATTRIBUTE_WORDS.true)),
      c.requires.2,
    )

pub returns-then-same_as_known : goal.returns-then-same_as_known
returns-then-same_as_known c =
    let a = c.args in let lent = lends a.names.now a.area.now in let same = same_name a.h a.t.now lent in
    let step = c.in-Some.ensures.steps in
    let equal = same-found a.h a.t.now lent _ a.name.0 c.find-wanted.result c.find-wanted.ensures _ _ c.same_as_known.ensures c.if-same_as_known.true in (
      (λ owner kind value. sym (c.loop-record.invariant.passed a.name.0 a.ns.0 owner kind value c.find-wanted.ensures
          ∙ repeat-found same owner a.prefix a.name.0 kind value a.ns.0 _ c.in-Some.record.now (chunks_exact_rest c.next.new.self)
          step.1.0 (step.1.1 ∙ c.loop-record.invariant.size) c.if-record-prefix.true equal
          (space-any same a.prefix _ a.ns.0 (c.is_numbered.ensures c.if-is_numbered.false)))),
      c.requires.2,
    )

pub loop-record-preserved-else-same_as_known : goal.loop-record-preserved-else-same_as_known
loop-record-preserved-else-same_as_known c =
    let a = c.args in let lent = lends a.names.now a.area.now in let same = same_name a.h a.t.now lent in
    let step = c.in-Some.ensures.steps in
    record {
      next = omega (arith, step.0, c.loop-record.invariant.size);
      finite = tt;
      size = step.0 ∙ c.loop-record.invariant.size;
      plain = c.loop-record.invariant.plain;
      passed = λ n ns owner kind value wanted. c.loop-record.invariant.passed n ns owner kind value wanted
          ∙ repeat-name same owner a.prefix n kind value ns _ c.in-Some.record.now (chunks_exact_rest c.next.new.self)
          step.1.0 (step.1.1 ∙ c.loop-record.invariant.size) c.if-record-prefix.true
          (same-found a.h a.t.now lent _ n _ wanted _ _ c.same_as_known.ensures c.if-same_as_known.false);
    }

pub loop-record-preserved : goal.loop-record-preserved
loop-record-preserved c =
    let a = c.args in let same = same_name a.h a.t.now (lends a.names.now a.area.now) in
    let step = c.in-Some.ensures.steps in
    record {
      next = omega (arith, step.0, c.loop-record.invariant.size);
      finite = tt;
      size = step.0 ∙ c.loop-record.invariant.size;
      plain = c.loop-record.invariant.plain;
      passed = λ n ns owner kind value wanted. c.loop-record.invariant.passed n ns owner kind value wanted
          ∙ repeat-prefix same owner a.prefix n kind value ns _ c.in-Some.record.now (chunks_exact_rest c.next.new.self)
          step.1.0 (step.1.1 ∙ c.loop-record.invariant.size) c.if-record-prefix.false;
    }

pub returns : goal.returns
returns c =
    let a = c.args in let same = same_name a.h a.t.now (lends a.names.now a.area.now) in
    let step = c.in-None.ensures.steps in (
      (λ owner kind value. sym (c.loop-record.invariant.passed a.name.0 a.ns.0 owner kind value c.find-wanted.ensures
          ∙ repeat-end (by_prefix same) (attribute_words owner a.prefix a.name.0 kind value a.ns.0) (chunks_exact_rest c.loop-record.record-iterator)
          (omega (arith, step.1.0, c.loop-record.invariant.size)))),
      c.requires.2,
    )
