-- `text::string_at` meets its contract: by the offset and the split (`string-outside`, `string-cut`, `string-pool`).
use native.Mathlib.Omega.{arith}
use mathlib.Core.Path.{sym, ◌∙◌}
use Rattle.text.proofs.Parts.{string-outside, string-cut, string-pool, string-pool-le, data-slice}
use Rattle.text.proofs.string_at.Goals as goal

pub returns-then-size-o : goal.returns-then-size-o
returns-then-size-o c =
    let s = c in
    let a = s.args in
    λ area. string-outside a.utf16 a.t.now a.strings a.size a.o s.requires area c.if-size-o.true

pub overflow_add-result-in-Some : goal.overflow_add-result-in-Some
overflow_add-result-in-Some c =
    let s = c in
    let p5 = c in
    let a = s.args in
    let e = sym c.split_string.ensures ∙ c.in-Some.is in
    let q = string-pool-le a.utf16 a.t.now a.strings a.size a.o s.requires p5.if-size-o.false
    (data-slice a.utf16 a.t.now a.strings a.size a.o e) in
    omega arith

pub returns-in-None : goal.returns-in-None
returns-in-None c =
    let s = c in
    let a = s.args in
    let e = sym c.split_string.ensures ∙ c.in-None.is in
    λ area. string-cut a.utf16 a.t.now a.strings a.size a.o s.requires area c.if-size-o.false
    (data-slice a.utf16 a.t.now a.strings a.size a.o e)

pub returns-in-Some : goal.returns-in-Some
returns-in-Some c =
    let s = c in
    let p5 = c in
    let a = s.args in
    let e = sym c.split_string.ensures ∙ c.in-Some.is in
    λ area. string-pool a.utf16 a.t.now a.strings a.size a.o s.requires area _ _ p5.if-size-o.false
    (data-slice a.utf16 a.t.now a.strings a.size a.o e)
