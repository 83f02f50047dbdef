use Rattle.std.proofs.Common.{◌≡◌, length, ◌∙◌, arith}
use Rattle.row_check.specs.Following.{AreCursors, HaveGoneOn}
use Rattle.row_check.specs.Offers.{AreSets, IsFirstOfferedLess}
use Rattle.row_check.specs.Joining.{AreTaken, IsFirstFoundLoose}
use Rattle.row_check.proofs.Targets.{lent, can_be_followed, lost_is_first, can_be_offered, worse_is_first, loose_is_first, checked_next}
use Rattle.row_check.proofs.scratch.Scratch.check.Goals as goal
use Rattle.row_check.proofs.scratch.Scratch.check.Goals.{After-advance, After-as_mut_slice-2, After-as_mut_slice-3}

are : (c : After-advance) → AreCursors c.args.rows.now c.args.self.now.near.items c.advance.new.cursors
are c = rw c.deref.ensures.value at c.advance.ensures.cursors

gone : (c : After-advance) → HaveGoneOn c.args.self.now.cursors.items c.advance.new.cursors c.args.target (length c.args.self.now.near.items)
gone c = rw (c.deref.ensures.value, c.as_mut_slice-cursors.ensures.value) at c.advance.ensures.on

pub find_keys-requires-clause-follow : goal.find_keys-requires-clause-follow
find_keys-requires-clause-follow c =
    can_be_followed c.args.cells.now c.args.rows.now c.requires.cells c.requires.rows c.args.self.now.near.items c.requires.ready.near c.args.self.now.cursors.items _
    c.requires.ready.cursors c.args.target c.requires.target c.requires.ready.behind (are (goal.at.find_keys-requires-clause-follow c).After-advance) (gone (goal.at.find_keys-requires-clause-follow c).After-advance)

pub returns-in-Some-clause-fault : goal.returns-in-Some-clause-fault
returns-in-Some-clause-fault c =
    lost_is_first c.args.cells.now c.args.rows.now c.requires.cells c.requires.rows c.args.self.now.near.items c.requires.ready.near c.args.self.now.cursors.items _
    c.requires.ready.cursors c.args.target c.requires.target c.requires.ready.behind (are (goal.at.returns-in-Some-clause-fault c).After-advance) (gone (goal.at.returns-in-Some-clause-fault c).After-advance)
    c.args.self.now.common.items c.requires.checked _ c.in-Some.ensures.lost

-- the keys as they are found
keys_are : (c : After-as_mut_slice-2) → c.deref-3.result.now ≡ c.find_keys.new.keys
keys_are c = c.deref-3.ensures.value ∙ lent c.args.self.now.keys.len c.find_keys.new.keys c.args.self.now.keys.items (c.find_keys.ensures.size ∙ c.as_mut_slice.ensures.len)

pub find_sets-requires-clause-keys : goal.find_sets-requires-clause-keys
find_sets-requires-clause-keys c =
    rw (c.deref-2.ensures.value, keys_are c)
    (can_be_offered c.args.cells.now c.args.rows.now c.requires.cells c.requires.rows c.args.self.now.near.items c.requires.ready.near c.args.self.now.cursors.items _
    c.requires.ready.cursors c.args.target c.requires.target c.requires.ready.behind (are (goal.at.find_sets-requires-clause-keys c).After-advance) (gone (goal.at.find_sets-requires-clause-keys c).After-advance)
    c.args.self.now.common.items c.requires.checked c.find_keys.new.keys c.in_default.ensures.all)

pub returns-in-Some-find_sets-clause-fault : goal.returns-in-Some-find_sets-clause-fault
returns-in-Some-find_sets-clause-fault c =
    let less : IsFirstOfferedLess c.args.self.now.near.items c.find_keys.new.keys c.in-Some-find_sets.source =
    rw (c.deref-2.ensures.value, keys_are (goal.at.returns-in-Some-find_sets-clause-fault c).After-as_mut_slice-2) at c.in-Some-find_sets.ensures.less in
    worse_is_first c.args.cells.now c.args.rows.now c.requires.cells c.requires.rows c.args.self.now.near.items c.requires.ready.near c.args.self.now.cursors.items _
    c.requires.ready.cursors c.args.target c.requires.target c.requires.ready.behind (are (goal.at.returns-in-Some-find_sets-clause-fault c).After-advance) (gone (goal.at.returns-in-Some-find_sets-clause-fault c).After-advance)
    c.args.self.now.common.items c.requires.checked c.find_keys.new.keys c.in_default.ensures.all _ less

-- the sets as they are found
sets_are : (c : After-as_mut_slice-3) → c.deref-4.result.now ≡ c.find_sets.new.sets
sets_are c = c.deref-4.ensures.value ∙ lent c.args.self.now.sets.len c.find_sets.new.sets c.args.self.now.sets.items (c.find_sets.ensures.size ∙ c.as_mut_slice-2.ensures.len)

are_sets : (c : After-as_mut_slice-3) → c.deref-3.result.now ≡ c.find_keys.new.keys → AreSets c.args.self.now.near.items c.args.target c.find_keys.new.keys c.find_sets.new.sets
are_sets c keys = rw (c.deref-2.ensures.value, keys) at c.in_default-find_sets.ensures.sets

pub returns-in-Some-join_sets-clause-fault : goal.returns-in-Some-join_sets-clause-fault
returns-in-Some-join_sets-clause-fault c =
    let at = goal.at.returns-in-Some-join_sets-clause-fault c in
    let loose : IsFirstFoundLoose c.args.rows.now c.advance.new.cursors c.args.target c.args.self.now.common.items c.find_sets.new.sets c.in-Some-join_sets.source =
    rw (c.as_mut_slice-3.ensures.value, sets_are at.After-as_mut_slice-3) at c.in-Some-join_sets.ensures.loose in
    loose_is_first c.args.cells.now c.args.rows.now c.requires.cells c.requires.rows c.args.self.now.near.items c.requires.ready.near c.args.self.now.cursors.items _
    c.requires.ready.cursors c.args.target c.requires.target c.requires.ready.behind (are at.After-advance) (gone at.After-advance)
    c.args.self.now.common.items c.requires.checked c.find_keys.new.keys c.in_default.ensures.all c.find_sets.new.sets (are_sets at.After-as_mut_slice-3 (keys_are at.After-as_mut_slice-2)) _ loose

pub returns-clause-checked : goal.returns-clause-checked
returns-clause-checked c =
    let at = goal.at.returns-clause-checked c in
    let whole = (are at.After-advance).whole in
    let old = c.requires.ready.cursors.whole in
    let cursors = lent c.args.self.now.cursors.len c.advance.new.cursors c.args.self.now.cursors.items (omega (arith, whole, old, c.args.self.now.cursors.ok.0)) in
    let common = lent c.args.self.now.common.len c.join_sets.new.common c.args.self.now.common.items (c.join_sets.ensures.size ∙ c.as_mut_slice-3.ensures.len) in
    let taken : AreTaken c.args.rows.now c.advance.new.cursors c.args.target c.args.self.now.common.items c.find_sets.new.sets c.join_sets.new.common (length c.advance.new.cursors) =
    rw (c.as_mut_slice-3.ensures.value, sets_are at.After-as_mut_slice-3) at c.in_default-join_sets.ensures.taken in
    rw (cursors, common)
    (checked_next c.args.cells.now c.args.rows.now c.requires.cells c.requires.rows c.args.self.now.near.items c.requires.ready.near c.args.self.now.cursors.items _
    c.requires.ready.cursors c.args.target c.requires.target c.requires.ready.behind (are at.After-advance) (gone at.After-advance)
    c.args.self.now.common.items c.requires.checked c.find_keys.new.keys c.in_default.ensures.all c.find_sets.new.sets (are_sets at.After-as_mut_slice-3 (keys_are at.After-as_mut_slice-2)) c.join_sets.new.common taken)
