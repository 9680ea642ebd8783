-- `tables::by_number::has_numbered` meets its contract: it stops at the first record that is repeated.
use Rattle.std.proofs.Common.{sym, ◌∙◌, arith}
use Rattle.std.specs.Slice.Iter.{chunks_exact_rest}
use Rattle.records.specs.Words.{attribute_words}
use Rattle.records.specs.Repeats.{by_prefix}
use Rattle.system_types.specs.Names.{lends}
use Rattle.text.specs.Content.{same_name}
use Rattle.tables.proofs.Keys.{repeat-end, repeat-same, repeat-other}
use Rattle.tables.proofs.by_number.has_numbered.Goals as goal

pub returns-then-is_same : goal.returns-then-is_same
returns-then-is_same c =
    let a = c.args in let same = same_name a.h a.t.now (lends a.names.now a.area.now) in
    let step = c.in-Some.ensures.steps in (
      (λ owner kind value. sym (c.loop-record.invariant.passed owner kind value
          ∙ repeat-same same owner a.prefix a.name.0 kind value a.ns.0 _ c.in-Some.record.now (chunks_exact_rest c.next.new.self)
          step.1.0 (step.1.1 ∙ c.loop-record.invariant.size) c.is_same.ensures.0 c.if-is_same.true)),
      c.is_same.ensures.1,
    )

pub loop-record-preserved : goal.loop-record-preserved
loop-record-preserved c =
    let a = c.args in let same = same_name a.h a.t.now (lends a.names.now a.area.now) in
    let step = c.in-Some.ensures.steps in
    record {
      next = omega (arith, step.0, c.loop-record.invariant.size);
      finite = tt;
      size = step.0 ∙ c.loop-record.invariant.size;
      plain = c.loop-record.invariant.plain;
      known = c.is_same.ensures.1;
      passed = λ owner kind value. c.loop-record.invariant.passed owner kind value
          ∙ repeat-other same owner a.prefix a.name.0 kind value a.ns.0 _ c.in-Some.record.now (chunks_exact_rest c.next.new.self)
          step.1.0 (step.1.1 ∙ c.loop-record.invariant.size) c.is_same.ensures.0 c.if-is_same.false;
    }

pub returns : goal.returns
returns c =
    let a = c.args in let same = same_name a.h a.t.now (lends a.names.now a.area.now) in
    let step = c.in-None.ensures.steps in (
      (λ owner kind value. sym (c.loop-record.invariant.passed owner kind value
          ∙ repeat-end (by_prefix same) (attribute_words owner a.prefix a.name.0 kind value a.ns.0) (chunks_exact_rest c.loop-record.record-iterator)
          (omega (arith, step.1.0, c.loop-record.invariant.size)))),
      c.loop-record.invariant.known,
    )
