use Rattle.std.proofs.Common.{◌<◌, ◌≤◌, ◌-◌, length, ◌∙◌, ap, arith}
use Rattle.std.proofs.lemmas.List.{get_or_default}
use Rattle.core_index.specs.Tombs.{key_of, bare_tombstone}
use Rattle.core_index.proofs.TombLaws.{near_first}
use Rattle.core_index.proofs.tombstone_list.first_at.Goals as goal

pub returns : goal.returns
returns c =
    let ts = c.args.items.now in
    let k = c.args.key in
    let at = c.args.at in
    let within = c.requires.within in
    let last : at - 1 < length ts = omega (arith, within) in
    let here = c.key_of.ensures ∙ ap key_of (get_or_default ts at _ bare_tombstone within) in
    let before = c.key_of-2.ensures ∙ ap key_of (get_or_default ts (at - 1) _ bare_tombstone last) in
    let le : k ≤ c.key_of.result = c.if-key_of-key.false in
    let lt : c.key_of-2.result < k = c.if-key_of-key-2.false in
    near_first ts k at bare_tombstone c.requires.rising within (omega (arith, here, le)) (λ some. omega (arith, before, lt))
