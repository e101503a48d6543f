-- The view that a program is told, as the definitions name it.
use Rattle.rv_model.specs.Truth as model
use Rattle.rv_reference.specs.declared.satisfaction.View.{View}
use Rattle.rv_reference.specs.declared.satisfaction.View.TheVariants.{Weak, Strong}

-- the two views by their names
abbrev pub view_of : View → model.View
view_of Weak = model.Weak
view_of Strong = model.Strong
