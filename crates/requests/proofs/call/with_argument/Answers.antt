use Rattle.std.proofs.Common.{◌≡◌, false, codes, rules}
use Rattle.std.specs.Str.{bytes_eq}
use Rattle.requests.proofs.call.with_argument.Goals as goal

pub returns-in_default : goal.returns-in_default
returns-in_default c =
    let name = c.args.name.now in
    let unpin : bytes_eq name (codes "unpin") ≡ false = search rules in
    let seed : bytes_eq name (codes "seed") ≡ false = search rules in
    let jump : bytes_eq name (codes "jump") ≡ false = search rules in
    search (rules, unpin, seed, jump)
