mod Echoes
mod DiskReadyForHub
