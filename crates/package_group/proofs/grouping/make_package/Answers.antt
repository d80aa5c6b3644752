use Rattle.std.proofs.Common.{List, ℕ, ◌∙◌, ◌≡◌, map, not, sym, subst}
use Rattle.std.specs.Prelude.{◌&&◌, filter}
use Rattle.package_group.specs.Groups.{has_name}
use Rattle.package_group.specs.Steps.{Lent, package_of, seen}
use Rattle.package_group.proofs.Members.{package_seen}
use Rattle.package_group.proofs.grouping.make_package.Goals as goal

pub returns : goal.returns
returns c =
    let name = c.in_ok-from_str-3.ensures in
    let P : List ℕ → Type 0 = λ path. record {
      path = path;
      dir = c.in_ok-from_str-2.field-0;
      name =
          c.in_ok-from_str-3.field-0;
      files = c.in_ok-own_files.field-0;
      tests =
          c.in_ok-own_tests.field-0;
    } ≡ package_of c.args.path.now (map seen c.args.members.now) in
    let F : List ℕ → Type 0 = λ n. c.in_ok-own_files.field-0
    ≡ map (λ (m : Lent). m.0) (filter (λ m. has_name n m.1.now && not m.1.now.test)
    c.args.members.now) in
    let T : List ℕ → Type 0 = λ n. c.in_ok-own_tests.field-0
    ≡ map (λ (m : Lent). m.0) (filter (λ m. has_name n m.1.now && m.1.now.test)
    c.args.members.now) in
    subst P (sym c.in_ok-from_str.ensures)
    (package_seen c.args.path.now c.in_ok-from_str-2.field-0 c.in_ok-from_str-3.field-0
    c.in_ok-own_files.field-0 c.in_ok-own_tests.field-0 c.args.members.now
    (c.in_ok-from_str-2.ensures ∙ c.dir_of.ensures) (name ∙ c.name_of-name.ensures)
    (subst F (sym name) c.in_ok-own_files.ensures)
    (subst T (sym name) c.in_ok-own_tests.ensures))
