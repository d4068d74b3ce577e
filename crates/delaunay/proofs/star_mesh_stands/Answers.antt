use Rattle.delaunay.proofs.StarMesh.{star_mesh}
use Rattle.delaunay.proofs.star_mesh_stands.Goals as goal

pub returns : goal.returns
returns c = star_mesh
