-- Each map that may be searched has one version before all edits, in each order.
use Rattle.std.proofs.Common.{◌≡◌, refl, subst}
use Rattle.versions.specs.Databases.{Versioned, IsDatabase, version_of}
use Rattle.versions.proofs.Databases.{databases_are_determined}
use Rattle.walk_rows.proofs.Existing.{databases_exist}
use Rattle.bake_parts.specs.Laws.{FirstVersionsExist}

-- a version is known by its four
same_version : (a b : Versioned) → a.map ≡ b.map → a.prefix ≡ b.prefix → a.order ≡ b.order → a.comps ≡ b.comps → a ≡ b
same_version a b p q r s = λ i. record { map = p i; prefix = q i; order = r i; comps = s i }

pub first_versions_exist : FirstVersionsExist
first_versions_exist on order whole searchable =
    let found = databases_exist on order whole searchable in
    record {
      version = version_of on 0 order found.0;
      first = record { of = refl; first = refl; in_order = refl; is = record { searchable = searchable; database = found.1 } };
      only = λ other first.
          (let database : IsDatabase on order other.comps =
          subst (λ k. IsDatabase on k other.comps) first.in_order (subst (λ m. IsDatabase m other.order other.comps) first.of first.is.database) in
          same_version other (version_of on 0 order found.0) first.of first.first first.in_order (databases_are_determined on order other.comps found.0 database found.1));
    }
