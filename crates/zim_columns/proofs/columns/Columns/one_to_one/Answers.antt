-- Each is found as the columns are kept, and their numbers rise.
use Rattle.std.proofs.Common.{List, All, IsTrue, subst}
use Rattle.zim_columns.specs.declared.declared.Declared.{Declared}
use Rattle.zim_columns.specs.Names.{are_rising, IsFoundByName}
use Rattle.zim_columns.specs.Parts.{HasPartsWithin}
use Rattle.zim_columns.proofs.NamesLaws.{found_once}
use Rattle.zim_columns.proofs.columns.Columns.one_to_one.Goals as goal

pub returns-clause-found : goal.returns-clause-found
returns-clause-found c = subst (λ (ds : List Declared). All (IsFoundByName ds) ds) c.self.view_is c.self.invariant.found

pub returns-clause-once : goal.returns-clause-once
returns-clause-once c =
    λ name other tuple further j. found_once 1 c.args.self.now name other tuple further j (subst (λ (ds : List Declared). IsTrue (are_rising 1 ds)) c.self.view_is c.self.invariant.rising)

pub returns-clause-rising : goal.returns-clause-rising
returns-clause-rising c = subst (λ (ds : List Declared). IsTrue (are_rising 1 ds)) c.self.view_is c.self.invariant.rising

pub returns-clause-parts : goal.returns-clause-parts
returns-clause-parts c = subst (λ (ds : List Declared). All HasPartsWithin ds) c.self.view_is c.self.invariant.parts
