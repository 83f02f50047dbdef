-- The version after all accepted edits.
use Rattle.std.proofs.Common.{◌≡◌, ℕ, ◌≤◌, refl, sym, subst, ap, ◌∙◌, arith}
use Rattle.moves.specs.Maps.{Map, IsSearchable}
use Rattle.cell_order.specs.declared.OrderKind.{OrderKind}
use Rattle.versions.specs.Databases.{Versioned}
use Rattle.edit_log.specs.Edits.{EditsInside, map_after}
use Rattle.path_core.specs.declared.board.Job.{Job}
use Rattle.path_core.specs.Boards.{Boarded}
use Rattle.path_core.specs.Histories.{accepted_count, map_at, map_now, published_prefix, IsLegal, IsVersionAt}
use Rattle.path_core.specs.Looks.{IsJob}
use Rattle.path_core.proofs.Bounds.{legal_histories_are_bounded}
use Rattle.path_core.proofs.Growing.{map_at_all}
use Rattle.path_core.proofs.Passing.{job_inside, job_leads, map_now_searchable}
use Rattle.follow_node.specs.Hearing.{IsNextVersion, IsVersionOf}

module _ (board : Boarded) (held : Versioned) (known : ℕ) (legal : IsLegal board.start board.history) (value : held ≡ board.version)
    (version : IsVersionAt board.start board.order board.history (published_prefix board.history) board.version) (known_is : known ≡ held.prefix) where
  known_at : known ≡ published_prefix board.history
  known_at = known_is ∙ ap (λ v. v.prefix) value ∙ version.after

  pub within : known ≤ accepted_count board.history
  within = let bounded = legal_histories_are_bounded board.start board.history legal in omega (arith, known_at, bounded.published)

  held_map : held.map ≡ map_at board.start board.history known
  held_map = ap (λ v. v.map) value ∙ version.map ∙ ap (map_at board.start board.history) (sym known_at)

  module _ (job : Job) (map : Map) (is : IsJob board known job) (copied : map ≡ held.map) where
    pub inside : EditsInside map job.edits.edits
    inside = rw (copied, held_map, is.edits) (job_inside board.start board.history known legal)

    leads : map_after map job.edits.edits ≡ map_now board.start board.history
    leads = rw (copied, held_map, is.edits) (job_leads board.start board.history known)

    pub searchable : IsSearchable (map_after map job.edits.edits)
    searchable = subst IsSearchable (sym leads)
        (map_now_searchable board.start board.history known legal within
        (subst IsSearchable (version.map ∙ ap (map_at board.start board.history) (sym known_at)) version.whole.searchable))

    next_version : (made : Versioned) → IsVersionOf (map_after map job.edits.edits) job.prefix held.order made → IsNextVersion board made
    next_version made of =
        let all : made.prefix ≡ accepted_count board.history = of.prefix_is ∙ is.prefix in
        record {
          may = record {
            accepted = omega (arith, all);
            is = record {
              map = of.map_is ∙ leads ∙ sym (map_at_all board.start board.history) ∙ ap (map_at board.start board.history) (sym all);
              after = refl;
              order = of.order_is ∙ ap (λ v. v.order) value ∙ version.order;
              whole = of.whole;
            };
          };
          all = all;
        }

    pub next_made : (made : Versioned) (grid : Map) (order : OrderKind) → grid ≡ map_after map job.edits.edits → order ≡ held.order
        → IsVersionOf grid job.prefix order made → IsNextVersion board made
    next_made made grid order grid_is order_is of = next_version made (record {
      map_is = of.map_is ∙ grid_is;
      prefix_is = of.prefix_is;
      order_is = of.order_is ∙ order_is;
      whole = of.whole;
    })
