use mathlib.Core.Path.{◌≡◌, ◌∙◌}
use lib.ListN.{get_or}
use native.Mathlib.Omega.{arith}
use Rattle.std.proofs.Common.{rules}
use Rattle.std.proofs.lemmas.List.{get_or_default}
use Rattle.text.proofs.Writing.{put_then}
use Rattle.listing.specs.Output.{state_lines, right_line, grant_line}
use Rattle.listing.proofs.put.put_state.Goals as goal

pub returns : goal.returns
unfolding state_lines
returns c =
    let t = c.args.loaded.now.tables in
    let m = c.args.loaded.now.size.m in
    let a = c.put_core-core.ensures in
    let b = c.put_lines-rights.ensures (right_line m t.rights.now) 18 21 (λ before after at e r x more is room post.
    let told : x ≡ get_or t.rights.now e 0 = is ∙ get_or_default t.rights.now e x 0 more in
    search rules) (omega arith) in
    let d = c.put_lines.ensures (grant_line m t.grants.now) 22 28 (λ before after at e r x more is room post.
    let told : x ≡ get_or t.grants.now e 0 = is ∙ get_or_default t.grants.now e x 0 more in
    search rules) (omega arith) in
    record {
      puts = rw c.args.loaded.now.of_size (put_then (put_then a.puts b.0) d.0);
      ends = omega (arith, a.ends, b.1, d.1, c.args.loaded.now.entries.0, c.args.loaded.now.entries.1);
    }
