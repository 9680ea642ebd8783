-- `xml::blocks::all_fit` meets its contract, by the form of the block: each byte fits, or one does not.
use Rattle.std.proofs.Common.{rules}
use Rattle.xml.specs.declared.blocks.Form.TheVariants.{AsciiUnits, FarUnits, Ascii, Pairs, Triples}
use Rattle.xml.proofs.Passing.{all_fit-is}
use Rattle.xml.proofs.blocks.all_fit.Goals as goal

pub returns-in-AsciiUnits : goal.returns-in-AsciiUnits
returns-in-AsciiUnits c =
    let a = c.args in
    let p = c.all_pass.ensures in
    rw c.in-AsciiUnits.is
    (all_fit-is AsciiUnits a.s.now a.at 64 _ (λ t k h. let f = p.passes t k h in search rules) (λ t. let f = p.fails t in (f.0, f.1, search rules)))

pub returns-in-FarUnits : goal.returns-in-FarUnits
returns-in-FarUnits c =
    let a = c.args in
    let p = c.all_pass-in-FarUnits.ensures in
    rw c.in-FarUnits.is
    (all_fit-is FarUnits a.s.now a.at 64 _ (λ t k h. let f = p.passes t k h in search rules) (λ t. let f = p.fails t in (f.0, f.1, search rules)))

pub returns-in-Ascii : goal.returns-in-Ascii
returns-in-Ascii c =
    let a = c.args in
    let p = c.all_pass-in-Ascii.ensures in
    rw c.in-Ascii.is
    (all_fit-is Ascii a.s.now a.at 64 _ (λ t k h. let f = p.passes t k h in search rules) (λ t. let f = p.fails t in (f.0, f.1, search rules)))

pub returns-in-Pairs : goal.returns-in-Pairs
returns-in-Pairs c =
    let a = c.args in
    let p = c.all_pass-in-Pairs.ensures in
    rw c.in-Pairs.is
    (all_fit-is Pairs a.s.now a.at 64 _ (λ t k h. let f = p.passes t k h in search rules) (λ t. let f = p.fails t in (f.0, f.1, search rules)))

pub returns-in-Triples : goal.returns-in-Triples
returns-in-Triples c =
    let a = c.args in
    let p = c.all_pass-in-Triples.ensures in
    rw c.in-Triples.is
    (all_fit-is Triples a.s.now a.at 48 _ (λ t k h. let f = p.passes t k h in search rules) (λ t. let f = p.fails t in (f.0, f.1, search rules)))
