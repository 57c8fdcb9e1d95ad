use Rattle.std.proofs.Common.{rules, ◌≡◌, ◌++◌}
use Rattle.std.specs.Prelude.{codes}
use Rattle.std.specs.String.{string_bytes}
use Rattle.hs_dtext.specs.Text.{node_lines, claim_lines, lines_text}
use Rattle.hs_dtext.proofs.Alone.{whole_text}
use Rattle.hs_dtext.proofs.text.write.Goals as goal

pub returns : goal.returns
returns c =
    let first : string_bytes c.write.new.self ≡ codes "derivation 1\n" = search rules in
    let second : string_bytes c.push_nodes.new.out ≡ string_bytes c.write.new.self ++ lines_text (node_lines c.args.defs.now 1 c.args.derivation.now.nodes) = search rules in
    let third : string_bytes c.push_claims.new.out ≡ string_bytes c.push_nodes.new.out ++ lines_text (claim_lines c.args.derivation.now.claims) = search rules in
    let last : string_bytes c.write-2.new.self ≡ string_bytes c.push_claims.new.out ++ codes "end\n" = search rules in
    record {
      text = whole_text (node_lines c.args.defs.now 1 c.args.derivation.now.nodes) (claim_lines c.args.derivation.now.claims) (string_bytes c.write.new.self) (string_bytes c.push_nodes.new.out) (string_bytes c.push_claims.new.out) (string_bytes c.write-2.new.self) first second third last;
    }
