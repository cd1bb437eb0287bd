-- The names that are bound around a place, from what binds them.
use Rattle.std.specs.Prelude.{[], ◌++◌, map, filter_map}
use Rattle.zim_typed.specs.Scope.{Names, Scope}
use Rattle.zim_typed.specs.Pattern.{bound_name}
use Rattle.zim_static.specs.declared.around.Around.{Around, fold-Around}
use Rattle.zim_static.specs.declared.around.Around.TheOpen.{Around-F}

-- where the names around an index are known
abbrev pub names_step : Scope → Around-F Names → Names
names_step scope Around-F.Nothing = []
names_step scope (Around-F.Parameters parameters) = map (λ x. x.1) parameters.now
names_step scope (Around-F.Index items outer) = filter_map (bound_name scope outer.now) items.now ++ outer.now

-- the names
abbrev pub names_in : Scope → Around → Names
names_in scope = fold-Around Names (names_step scope)
