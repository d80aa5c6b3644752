use Rattle.std.proofs.Common.{◌∙◌, Bor, List, ℕ, [], Option, ap, sym, arith}
use Rattle.std.specs.Prelude.{option_map}
use Rattle.std.specs.Option.{option_map_or}
use Rattle.plain_data.proofs.LastOf.{split_at_last}
use Rattle.package_group.proofs.folders.folder_of.Goals as goal

pub returns-in-Some : goal.returns-in-Some
returns-in-Some c =
    let split = split_at_last 47 (omega arith) c.args.path.now c.rsplit_once.result
    c.rsplit_once.ensures.cases in
    ap (λ (r : Option (Bor (List ℕ) × Bor (List ℕ))).
    option_map_or (λ s. s.0) (option_map (λ x. (x.0.now, x.1.now)) r) []) (sym c.in-Some.is)
    ∙ ap (λ (r : Option (List ℕ × List ℕ)). option_map_or (λ s. s.0) r []) split

pub returns-in-None : goal.returns-in-None
returns-in-None c =
    let split = split_at_last 47 (omega arith) c.args.path.now c.rsplit_once.result
    c.rsplit_once.ensures.cases in
    ap (λ (r : Option (Bor (List ℕ) × Bor (List ℕ))).
    option_map_or (λ s. s.0) (option_map (λ x. (x.0.now, x.1.now)) r) []) (sym c.in-None.is)
    ∙ ap (λ (r : Option (List ℕ × List ℕ)). option_map_or (λ s. s.0) r []) split
