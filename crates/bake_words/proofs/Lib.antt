mod Fitting
mod Bytes
mod Building
mod Baked
mod Given
